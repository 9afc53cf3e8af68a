-- A generated image has one hart.
use Rattle.std.proofs.Common.{◌≡◌, ◌∙◌, ℕ, ◌<◌, ◌≤◌, List, [], ◌∷◌, length, map, refl, arith}
use Rattle.std.specs.List.{range_with_len}
use Rattle.std.proofs.lemmas.List.{length-map}
use Rattle.std.proofs.lemmas.List.FromFn.{length-range_with_len}
use Rattle.seed_words.specs.Words.{word}
use Rattle.sched_table.specs.declared.schedule.Entry.{Entry}
use Rattle.sched_table.specs.Schedule.{harts_in}
use Rattle.image_check.specs.Public.{public_of}
use Rattle.schedule_check.specs.Schedule.{entry_of}
use Rattle.image_gen.specs.Generated.{entry, at_domain, count, schedule_of, generated, image_with}
use Rattle.image_gen.specs.Laws.{OneHartLaw}

some_harts : (es : List Entry) → 0 < length es → 0 < harts_in es
unfolding harts_in
some_harts [] some = absurd (omega (arith, some))
some_harts (e ∷ es) some = omega arith

module _ (w : ℕ → ℕ) where
  on_0 : (d : ℕ) → (entry_of (entry d (w d))).hart ≡ 0
  unfolding entry_of
  on_0 d = refl

  all_on_0 : (ds : List ℕ) → harts_in (map entry_of (map (λ d. entry d (w d)) ds)) ≤ 1
  unfolding harts_in
  all_on_0 [] = omega arith
  all_on_0 (d ∷ ds) = let rest = all_on_0 ds in let first = on_0 d in omega (arith, rest, first)

some_domains : (seed : ℕ) → 0 < count seed
unfolding count
some_domains seed = omega arith

pub one_hart : OneHartLaw
unfolding generated image_with schedule_of public_of
one_hart seed =
    let ds = range_with_len 0 (count seed) in
    let w : ℕ → ℕ = λ d. word (at_domain seed (count seed)) d in
    let es = map (λ d. entry d (w d)) ds in
    let many = length-map es entry_of ∙ length-map ds (λ d. entry d (w d)) ∙ length-range_with_len 0 (count seed) in
    let least : 0 < count seed = some_domains seed in
    let some = some_harts (map entry_of es) (omega (arith, many, least)) in
    let few = all_on_0 w ds in
    let one : harts_in (map entry_of es) ≡ 1 = omega (arith, some, few) in
    one
