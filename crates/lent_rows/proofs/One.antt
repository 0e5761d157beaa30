-- Each statement of a public call has one outcome: any two that satisfy it are equal. And what a refusal leaves.
-- Assumes nothing.
use Prim.Native.Nat.{ℕ}
use mathlib.Core.Bool.{Bool}
use mathlib.Core.Path.{◌≡◌, sym, ap, ◌∙◌}
use mathlib.Core.List.{List}
use Rattle.relay.specs.Line.{head}
use Rattle.relay.specs.declared.Head.{Head}
use Rattle.relay.specs.declared.Post.{Post}
use Rattle.relay.specs.declared.Told.{Told}
use Rattle.tracks.specs.Circuit.{AfterTwo, GivesTwo, valid_two, start_two, event_two}
use Rattle.tracks.proofs.Kept.{gives_one, start_leaves, two_refused}

module _ (c : ℕ) (l k : List Post) where
  pub valid_one : (s : Head) (r r' : Bool) → r ≡ valid_two c l k s → r' ≡ valid_two c l k s → r ≡ r'
  valid_one s r r' e f = e ∙ sym f

  module _ (r r' : Told) (l₁ l₂ k₁ k₂ : List Post) where
    pub start_one : (ks js : List ℕ) (t : ℕ) → GivesTwo (start_two c l k ks js t) r l₁ k₁ → GivesTwo (start_two c l k ks js t) r' l₂ k₂
        → (r ≡ r') × (l₁ ≡ l₂) × (k₁ ≡ k₂)
    start_one ks js t e f = gives_one (start_two c l k ks js t) r r' l₁ l₂ k₁ k₂ e f

    pub event_one : (s : Head) (track n i t : ℕ) → GivesTwo (event_two c l k s track n i t) r l₁ k₁ → GivesTwo (event_two c l k s track n i t) r' l₂ k₂
        → (r ≡ r') × (l₁ ≡ l₂) × (k₁ ≡ k₂)
    event_one s track n i t e f = gives_one (event_two c l k s track n i t) r r' l₁ l₂ k₁ k₂ e f

  -- a refusal leaves both rows as lent: on starting the head is of zeros, else it is the one given
  module _ (r : Told) (l' k' : List Post) (no : r.answer ≡ 0 → ⊥) where
    pub refused_start : (ks js : List ℕ) (t : ℕ) → GivesTwo (start_two c l k ks js t) r l' k' → (l' ≡ l) × (k' ≡ k) × (r.head ≡ head 0 0)
    refused_start ks js t e =
        let z = (start_leaves c l k ks js t).1 (λ y. no (ap (λ (u : Told). u.answer) e.0 ∙ y)) in
        (e.1 ∙ ap (λ (u : AfterTwo). u.first) z, e.2 ∙ ap (λ (u : AfterTwo). u.second) z, ap (λ (u : Told). u.head) e.0 ∙ ap (λ (u : AfterTwo). u.told.head) z)

    pub refused-event : (s : Head) (track n i t : ℕ) → GivesTwo (event_two c l k s track n i t) r l' k' → (l' ≡ l) × (k' ≡ k) × (r.head ≡ s)
    refused-event s track n i t e =
        let z = two_refused c l k s track n i t (λ y. no (ap (λ (u : Told). u.answer) e.0 ∙ y)) in
        (e.1 ∙ z.0, e.2 ∙ z.1, ap (λ (u : Told). u.head) e.0 ∙ z.2)
