-- `since::since_text` meets its contract: a refusal, no event, or the event that is named, which reading the sheet again hands out with its track.
use mathlib.Core.Path.{refl, sym, ap, ◌∙◌}
use Rattle.sheet.specs.Refusals.{found_tracks_of}
use Rattle.std.proofs.Common.{Ok}
use Rattle.why.specs.Why.{since}
use Rattle.why.specs.declared.Since.{Since}
use Rattle.desk.proofs.Texts.{told-refuses, reads_again, named_in, text-refused, text_start, text-event, named-few, named-read, track-read, form-read}
use Rattle.desk.proofs.since.since_text.Goals as goal

pub returns-in_default : goal.returns-in_default
returns-in_default c =
    let told = c.from-since.ensures in
    rw (text-refused _ _ c.from-since.result (told ∙ c.since_when_tracks-asked.ensures) (λ z. told-refuses c.since_when_tracks-asked.result c.in_default.not-Ok (ap (λ (x : Since). x.number) (sym told) ∙ z)))
    c.refused_line.ensures

pub returns-then-at-eq0 : goal.returns-then-at-eq0
returns-then-at-eq0 c = rw (text_start _ _ (since 0 0 c.in-Ok.at) c.in-Ok.ensures refl c.if-at-eq0.true) c.put_start.ensures

pub unreachable-requires : goal.unreachable-requires
unreachable-requires c = reads_again c.args.s.now c.read_tracks.result c.read_tracks.ensures.0 (named_in _ _ (since 0 0 c.in-Ok.at) c.in-Ok.ensures refl).0 c.in_default-read_tracks.not-Ok

pub bounds-events-i : goal.bounds-events-i
bounds-events-i c = named-few _ _ (since 0 0 c.in-Ok.at) c.in-Ok.ensures refl c.if-at-eq0.false

pub bounds-on-i : goal.bounds-on-i
bounds-on-i c = named-few _ _ (since 0 0 c.in-Ok.at) c.in-Ok.ensures refl c.if-at-eq0.false

pub returns : goal.returns
returns c =
    let w = since 0 0 c.in-Ok.at in
    let e = c.in-Ok.ensures in
    let p = c.if-at-eq0.false in
    let f = found_tracks_of (Ok c.in-Ok-read_tracks.header) in
    let r = c.in-Ok-read_tracks.ensures in
    rw (
      text-event _ _ w e refl p,
      ← named-read _ _ w e refl p f r.0 _ _ r.2,
      ← track-read _ _ w e refl p f r.0 _ _ r.3,
      ← form-read _ _ w e refl p f r.0,
    )
    c.event_line.ensures
