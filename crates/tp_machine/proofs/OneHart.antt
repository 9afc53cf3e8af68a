-- The code's hart of an image of one, and the machine that goes from slot to slot, with all guards on or with one off.
use Rattle.std.proofs.Common.{◌≡◌, ◌∙◌, ℕ, suc, ◌+◌, ◌<◌, List, [], ◌++◌, replicate, Option, None, sym, ap, ap₂, subst, arith}
use Rattle.std.proofs.lemmas.List.Elements.{All-nil, All-append, All-replicate}
use Rattle.image_record.specs.Record.{Raw}
use Rattle.sched_table.specs.Schedule.{start, harts_in}
use Rattle.image_check.specs.Public.{Public}
use Rattle.image_check.specs.Image.{Image, own_of}
use Rattle.image_check.specs.Laws.{Runnable}
use Rattle.guards.specs.declared.Guard.{Guard}
use Rattle.world_view.specs.Machine.{guards_of, clock_of, switch, whole, whole_by, arrivals}
use Rattle.world_view.specs.Mail.{arrivals_in}
use Rattle.world_view.specs.View.{View, view, view_in, view_whole, view_mailed, view_alone}
use Rattle.world_view.specs.Relations.{IsDomain, HasNoMail}
use Rattle.world_view.specs.Harts.{Harts, Progress, IsOnOneHart, IsOutside, slots_of, harts, harts_by, view_on, view_mailed_on, view_alone_on}
use Rattle.world_view.specs.HartLaws.{IsBetween}
use Rattle.world_view.specs.Laws.{SameWorld}
use Rattle.world_view.proofs.harts.Clocks.{hart_between, hart_starts}
use Rattle.world_view.proofs.harts.OneHart.{one_hart}
use Rattle.world_view.proofs.harts.Isolation.{hart_mail, hart_isolation}
use Rattle.world_view.proofs.harts.Whole.{switch_law, whole_law}
use Rattle.hart_orders.proofs.Held.{progress_first}
use Rattle.hart_set.specs.declared.set.State.{State}
use Rattle.hart_set.specs.Standing.{StandsFor, AtHart}
use Rattle.hart_set.specs.Slots.{SlotEnds}
use Rattle.hart_set.specs.Models.{image_of}
use Rattle.tp_machine.specs.OneHart.{HasRun}

pub none_run : (off : Option Guard) (v : Raw × State) → Runnable (image_of v) → IsOnOneHart (image_of v) → v.1.off ≡ off
    → StandsFor (image_of v) (harts_by off (image_of v) []) v.1 → HasRun off v 0
none_run off v r one without stands =
    let first = progress_first off (image_of v) r 0 in
    record {
      accepted = r;
      one = one;
      without = without;
      order = [];
      of_harts = All-nil (λ (h : ℕ). h < harts_in (image_of v).all.schedule);
      outside = ap (λ (p : Progress). p.inside) first;
      had = ap (λ (p : Progress). p.slots) first;
      stands = stands;
    }

module _ (off : Option Guard) (v : Raw × State) (n : ℕ) (has : HasRun off v n) where
  abbrev i : Image
  i = image_of v

  abbrev s : Harts
  s = harts_by off i has.order

  pub first_there : 0 < harts_in i.all.schedule
  first_there = let one = has.one in omega (arith, one)

  -- ---- one slot more

  pub few : n < 65536 → AtHart v.1 0 (λ x. x.slots < 65536)
  few left x at =
      let same = (has.stands.each_hart 0 x at).slots in let had = has.had in omega (arith, same, had, left)

  pub one_more : (t : State) → t.off ≡ v.1.off → SlotEnds i 0 v.1 t → HasRun off (v.0, t) (n + 1)
  one_more t still ends =
      let without = still ∙ has.without in
      let ended =
      ends has.order has.of_harts (subst (λ (o : Option Guard). StandsFor i (harts_by o i has.order) v.1) (sym has.without) has.stands) in
      let IsHartOf : ℕ → Type 0 = λ h. h < harts_in i.all.schedule in
      let order = has.order ++ replicate ended.events 0 in
      let had = has.had in
      let slots = subst (λ (o : Option Guard). slots_of 0 (harts_by o i order) ≡ suc (slots_of 0 (harts_by o i has.order))) without ended.slots in
      record {
        accepted = has.accepted;
        one = has.one;
        without = without;
        order = order;
        of_harts =
            All-append IsHartOf has.order (replicate ended.events 0) has.of_harts (All-replicate IsHartOf ended.events 0 first_there);
        outside = subst (λ (o : Option Guard). IsOutside 0 (harts_by o i order)) without ended.outside;
        had = omega (arith, had, slots);
        stands = subst (λ (o : Option Guard). StandsFor i (harts_by o i order) t) without ended.stands;
      }

  -- ---- what is seen

  pub same : SameWorld (whole_by (guards_of off i) i n) s.world
  same =
      subst (λ (k : ℕ). SameWorld (whole_by (guards_of off i) i k) s.world) has.had
      (whole_law off i has.order has.accepted has.one has.of_harts has.outside)

  pub seen : (d : ℕ) (x : View) → ((u : Harts) → StandsFor i u v.1 → x ≡ view_on i d u)
      → x ≡ view_in i d (whole_by (guards_of off i) i n)
  unfolding view_on
  seen d x is = is s has.stands ∙ sym (ap₂ (view i.all.hardware (own_of i d)) (same.doms d) same.storage)

  pub used_is : (P : List (ℕ × ℕ) → Type 0) → ((u : Harts) → StandsFor i u v.1 → P u.world.used)
      → P (whole_by (guards_of off i) i n).used
  used_is P is = subst P (sym same.used) (is s has.stands)

-- ---- with all guards on

module _ (v : Raw × State) (n : ℕ) (has : HasRun None v n) where
  -- its next switch's work is done by the next start
  pub on_time : let i = image_of v in clock_of 0 (switch i n (whole i n)) ≡ start i.all.schedule n
  on_time =
      let i = image_of v in
      let s = harts i has.order in
      let entries = (one_hart i has.one).entries in
      subst (λ (k : ℕ). clock_of 0 (switch i k (whole i k)) ≡ start i.all.schedule k) has.had
      ((switch_law None i has.order has.accepted has.one has.of_harts has.outside).clock
      ∙ hart_starts i 0 has.order has.accepted has.of_harts (first_there None v n has) has.outside
      ∙ ap (λ (p : Public). start p.schedule (slots_of 0 s)) entries)

  -- what is seen is what is seen of it alone, with what came to it in boxes
  pub mailed : let i = image_of v in (d : ℕ) → IsDomain i d
      → view_whole i d n ≡ view_mailed i.all (own_of i d) d (arrivals d (whole i n)) n
  unfolding view_on view_whole
  mailed d is =
      let i = image_of v in
      let s = harts i has.order in
      let first = one_hart i has.one in
      let one = same None v n has in
      let apart =
      subst (λ (h : ℕ). IsBetween i h s → view_on i d s ≡ view_mailed_on i d (arrivals d s.world) (slots_of h s)) (first.home d)
      (hart_mail i d has.order has.accepted is has.of_harts)
      (hart_between i 0 has.order has.accepted has.of_harts (first_there None v n has) has.outside) in
      ap₂ (view i.all.hardware (own_of i d)) (one.doms d) one.storage
      ∙ apart
      ∙ ap₂ (view_mailed_on i d) (ap (arrivals_in d) (sym one.came)) has.had
      ∙ first.mailed d (arrivals d (whole i n)) n

  -- and where no box leads to it, with nothing
  pub alone : let i = image_of v in (d : ℕ) → IsDomain i d → HasNoMail i d
      → view_whole i d n ≡ view_alone i.all (own_of i d) d n
  unfolding view_on view_whole
  alone d is none =
      let i = image_of v in
      let s = harts i has.order in
      let first = one_hart i has.one in
      let one = same None v n has in
      let apart =
      subst (λ (h : ℕ). IsBetween i h s → view_on i d s ≡ view_alone_on i d (slots_of h s)) (first.home d)
      (hart_isolation i d has.order has.accepted is none has.of_harts)
      (hart_between i 0 has.order has.accepted has.of_harts (first_there None v n has) has.outside) in
      ap₂ (view i.all.hardware (own_of i d)) (one.doms d) one.storage
      ∙ apart
      ∙ ap (view_alone_on i d) has.had
      ∙ first.mailed d [] n
