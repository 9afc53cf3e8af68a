-- Where an image has one hart, its entries are all.
use Rattle.std.proofs.Common.{◌≡◌, ℕ, ◌+◌, ◌<◌, ◌≤◌, List, [], ◌∷◌, length, get_or, zero-add, ap, ◌∙◌, refl, arith}
use Rattle.std.specs.List.{All, enumerate_from}
use Rattle.std.proofs.lemmas.List.Elements.{All-nil, All-cons}
use Rattle.std.proofs.lemmas.List.FromFn.{get_or-enumerate_from}
use Rattle.sched_table.specs.declared.schedule.Entry.{Entry}
use Rattle.sched_table.specs.Schedule.{no_entry, entries_alone, on_hart, place_on, harts_in}
use Rattle.sched_table.proofs.Harts.{one_hart_law, hart_there_law}
use Rattle.image_check.specs.Public.{Public}
use Rattle.image_check.specs.Image.{own_of}
use Rattle.world_view.specs.View.{view_mailed}
use Rattle.world_view.specs.Harts.{public_on, hart_of_domain, view_mailed_on}
use Rattle.world_view.specs.HartLaws.{OneHartLaw}

on_first : (es : List Entry) → harts_in es ≤ 1 → All (λ e. e.hart ≡ 0) es
unfolding harts_in
on_first [] few = All-nil (λ (x : Entry). x.hart ≡ 0)
on_first (e ∷ es) few = All-cons (λ (x : Entry). x.hart ≡ 0) e es (omega (arith, few)) (on_first es (omega (arith, few)))

some_entry : (es : List Entry) → harts_in es ≡ 1 → 0 < length es
unfolding harts_in
some_entry [] one = absurd (omega (arith, one))
some_entry (e ∷ es) one = omega arith

without_places : (n : ℕ) (es : List Entry) → entries_alone (enumerate_from n es) ≡ es
without_places n [] = refl
without_places n (e ∷ es) = ap (λ (xs : List Entry). e ∷ xs) (without_places (n + 1) es)

all_entries : (es : List Entry) → harts_in es ≡ 1 → on_hart es 0 ≡ es
all_entries es one = ap entries_alone (one_hart_law es (on_first es (omega (arith, one)))) ∙ without_places 0 es

-- and each stands at its own place
pub all_on_first : (es : List Entry) → harts_in es ≡ 1 → (e : ℕ) → e < length (on_hart es 0) → place_on es 0 e ≡ e
all_on_first es one e below =
    let all = one_hart_law es (on_first es (omega (arith, one))) in
    let few : length (on_hart es 0) ≡ length es = ap length (all_entries es one) in
    ap (λ (placed : List (ℕ × Entry)). (get_or placed e (0, no_entry)).0) all
    ∙ ap (λ (x : ℕ × Entry). x.0) (get_or-enumerate_from 0 es e (0, no_entry) (omega (arith, few, below)))
    ∙ zero-add e

pub one_hart : OneHartLaw
unfolding view_mailed_on
one_hart i one =
    let es = i.all.schedule in
    let entries : public_on i.all 0 ≡ i.all = ap (λ (xs : List Entry). record i.all { schedule = xs }) (all_entries es one) in
    let home : (d : ℕ) → hart_of_domain i d ≡ 0 = λ d. let there = hart_there_law es d (some_entry es one) in omega (arith, there, one) in
    record {
      entries = entries;
      home = home;
      mailed = λ d came n.
          ap (λ (h : ℕ). view_mailed (public_on i.all h) (own_of i d) d came n) (home d)
          ∙ ap (λ (p : Public). view_mailed p (own_of i d) d came n) entries;
    }
