-- What an accepted image gives to a domain that runs alone.
use Rattle.std.proofs.Common.{◌≡◌, ◌≢◌, ℕ, zero, suc, ◌<◌, true, false, true≢false, List, [], ◌∷◌, ◌≤◌, refl, ap, sym, subst, subst₂, ◌∙◌, arith}
use Rattle.frame_colours.specs.Colours.{has, list_at, AreDisjoint}
use Rattle.sched_table.specs.declared.schedule.Entry.{Entry}
use Rattle.sched_table.specs.Schedule.{entry_in, on_hart, place_on, harts_in, hart_for}
use Rattle.sched_table.proofs.Harts.{placed_law, hart_there_law}
use Rattle.sched_table.proofs.HartSchedules.{hart_schedule_sound}
use Rattle.pad_bound.specs.Bound.{bound_of}
use Rattle.image_check.specs.Pads.{shape_for}
use Rattle.hardware_check.specs.Hardware.{colours_of}
use Rattle.image_check.specs.Public.{Public}
use Rattle.image_check.specs.Own.{Own}
use Rattle.image_check.specs.Image.{Image, own_of}
use Rattle.image_check.specs.Laws.{Runnable}
use Rattle.world_view.specs.Relations.{IsDomain}
use Rattle.world_view.proofs.opening.Separate.{list_is}
use Rattle.alone_run.specs.Runs.{IsOf, public_for, RunsAlone}

-- one list of colours is apart from all others
alone_disjoint : (colours : ℕ) (cs : List ℕ) → ((c : ℕ) → has cs c ≡ true → c < colours) → has cs 0 ≡ false
    → AreDisjoint colours (cs ∷ [])
alone_disjoint colours cs low no_zero = record { in_range = in_range; no_zero = none; apart = apart }
  where
    in_range : (j c : ℕ) → has (list_at (cs ∷ []) j) c ≡ true → c < colours
    in_range zero c h = low c h
    in_range (suc j) c h = absurd (true≢false (sym h))

    none : (j : ℕ) → has (list_at (cs ∷ []) j) 0 ≡ false
    none zero = no_zero
    none (suc j) = refl

    apart : (j k c : ℕ) → j ≢ k → has (list_at (cs ∷ []) j) c ≡ true → has (list_at (cs ∷ []) k) c ≡ false
    apart zero zero c other h = absurd (other refl)
    apart zero (suc k) c other h = refl
    apart (suc j) k c other h = absurd (true≢false (sym h))

runs_alone : (i : Image) → Runnable i → (d : ℕ) → IsDomain i d → RunsAlone (public_for i.all d) (own_of i d) d
runs_alone i r d is =
    let es = i.all.schedule in
    let h = hart_for es d in
    let there : h < harts_in es = hart_there_law es d r.schedule.some in
    let own = list_is i r d is in
    let most = r.hardware.most_frames in
    record {
      hardware = r.hardware;
      schedule = hart_schedule_sound es h r.schedule (r.harts.each h there);
      padded = λ e within same.
          let placed = placed_law es h e within in
          subst (λ (n : ℕ). bound_of (shape_for i.all.hardware (own_of i n).calls) ≤ (entry_in (on_hart es h) e).pad) same
          (subst (λ (x : Entry). bound_of (shape_for i.all.hardware (own_of i x.domain).calls) ≤ x.pad) (sym placed.same)
          (r.padded (place_on es h e) placed.there));
      colours = alone_disjoint (colours_of i.all.hardware) (own_of i d).colours
          (λ c h. r.disjoint.in_range d c (ap (λ (cs : List ℕ). has cs c) own ∙ h))
          (ap (λ (cs : List ℕ). has cs 0) (sym own) ∙ r.disjoint.no_zero d);
      pool = record { few = omega (arith, most); enough = r.pools d is; sound = r.sound d };
      boxes = r.boxes.few;
    }

pub runs_of : (p : Public) (o : Own) (d : ℕ) → IsOf p o d → RunsAlone (public_for p d) o d
runs_of p o d is =
    subst₂ (λ (q : Public) (x : Own). RunsAlone (public_for q d) x d) (sym is.public) (sym is.own)
    (runs_alone is.image is.runnable d is.domain)
