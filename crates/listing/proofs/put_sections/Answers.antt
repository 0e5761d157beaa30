-- `listing::put_sections` meets its contract: the lines of the sections so far stand from `at` on.
-- the first j = i + 1 posts of the line have i sections
use Prim.Native.Nat.{◌-◌, ◌+◌, ◌≤◌, ◌<◌}
use mathlib.Core.Path.{◌≡◌, refl, sym, ◌∙◌}
use native.Mathlib.Omega.{arith}
use borrow.Author.Rules.{rules}
use lib.ListN.{length, take}
use lib.Seq.{take_all, length-take-le}
use Rattle.relay.specs.Posts.{at}
use Rattle.row.proofs.Lines.{line_is, at_part}
use Rattle.working.specs.Working.{section_numbers}
use Rattle.listing.specs.Lines.{track_named}
use Rattle.listing.proofs.Listed.{line_of_section, sections_first, sections_more}
use Rattle.digits.proofs.Stores.{stored_none, next_stands, next_place}
use Rattle.listing.proofs.put_sections.Goals as goal
use Rattle.listing.proofs.put_sections.Goals.{Start}

-- the array has 32 records
full : (c : Start) → length c.args.row.posts ≡ 32
full c = search rules

pub loop-j-init : goal.loop-j-init
loop-j-init c = rw sections_first (omega arith, omega arith, omega arith, refl, sym (stored_none _ _))

pub loop-j-preserved : goal.loop-j-preserved
loop-j-preserved c = let a = c.args in
    let ps = a.row.posts in
    let n = a.row.n in
    let i = c.loop-j.j - 1 in
    let j = c.loop-j.j in
    let h : n ≤ length ps = omega (arith, full (goal.at.loop-j-preserved c).Start) in
    let less : j < n = omega arith in
    let ln = take n ps in
    let u = line_of_section (track_named a.tracks a.track) i (at ln i) (at ln j) in
    let numbers : c.section-numbers.result ≡ section_numbers i (at ln i) (at ln j) =
    c.section-numbers.ensures ∙ rw (at_part ps n h i (omega arith), at_part ps n h j less) in
    let r = c.put_section-p.ensures in
    let more = sections_more (track_named a.tracks a.track) ln i j (omega arith) (rw (length-take-le n ps h) less) in
    let r0 = rw numbers at r.put.0 in
    let fits : c.loop-j.p + length u ≤ length a.out.now = omega (arith, r0, r.short) in (
      omega arith,
      r0 ∙ next_place a.out.now c.loop-j.out _ u _ a.at c.loop-j.p c.loop-j.invariant.4 c.loop-j.invariant.1 more fits,
      omega (arith, r.short),
      search rules,
      (rw numbers at r.put.1) ∙ next_stands a.out.now c.loop-j.out _ u _ a.at c.loop-j.p c.loop-j.invariant.4 c.loop-j.invariant.1 more fits,
    )

pub returns : goal.returns
returns c = let a = c.args in
    let h : a.row.n ≤ length a.row.posts = omega (arith, full (goal.at.returns c).Start) in
    let all = take_all c.loop-j.j (take a.row.n a.row.posts) (omega (arith, length-take-le a.row.n a.row.posts h)) in
    record {
      put = rw (line_is a.row (omega arith)) (rw all at c.loop-j.invariant.1, rw all at c.loop-j.invariant.4);
      short = omega arith;
    }
