-- The number of each circuit, track and refusal: what is stored and returned stays a number, and these say which one each stands for.
-- Assumes nothing.
use Rattle.std.specs.Prelude.{ℕ, Result, Ok, Err}
use Rattle.relay.specs.Answers.{taken}
use Rattle.relay.specs.Numbers.{number_of_refusal as number_alone}
use Rattle.tracks.specs.Circuit.{polarised, vibrated, circuit_busy, track_one, track_two}
use Rattle.tracks.specs.declared.circuit.Circuit.{Circuit}
use Rattle.tracks.specs.declared.circuit.Circuit.TheVariants.{Polarised, Vibrated}
use Rattle.tracks.specs.declared.track.Track.{Track}
use Rattle.tracks.specs.declared.track.Track.TheVariants.{One, Two}
use Rattle.tracks.specs.declared.refusal.Refusal.{Refusal}
use Rattle.tracks.specs.declared.refusal.Refusal.TheVariants.{Relays, CircuitBusy}

-- the number of a circuit kind
abbrev pub number_of_circuit : Circuit → ℕ
number_of_circuit Polarised = polarised
number_of_circuit Vibrated = vibrated

-- the number of a track
abbrev pub number_of_track : Track → ℕ
number_of_track One = track_one
number_of_track Two = track_two

-- the number of a refusal: one of the relays' has its own
abbrev pub number_of_refusal : Refusal → ℕ
number_of_refusal (Relays alone) = number_alone alone
number_of_refusal CircuitBusy = circuit_busy

-- the number that such an outcome returns: that of its refusal, or 'taken'
abbrev pub refusal_code : {T : Type 0} → Result T Refusal → ℕ
refusal_code (Ok _) = taken
refusal_code (Err refusal) = number_of_refusal refusal
