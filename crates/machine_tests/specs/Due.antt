-- Which moment comes where those of all domains come: computed on two domains at cycle 100.
use Rattle.std.specs.Prelude.{◌≡◌, ℕ, Bool, true, false, if◌then◌else◌, List, [], ◌∷◌, Option, Some, None, refl}
use Rattle.tp_base.specs.Table.{empty, put, at}
use Rattle.call_table.specs.Domain.{is_running, dom_at_entry}
use Rattle.irq_partition.specs.declared.Moment.{Moment}
use Rattle.image_check.specs.Image.{Image, own_of}
use Rattle.mem_system.specs.Cost.{Caches}
use Rattle.world_view.specs.Event.{interrupts_of}
use Rattle.world_view.specs.Kernel.{no_dom}
use Rattle.world_view.specs.Machine.{World, Guards, Owned, with_hart, with_part, part_of, dom_of, clock_of, setting_by, step, first_due, delivered_or_step, step_among}
use Rattle.machine_tests.specs.Example.{two_domains}

abbrev pub moment : ℕ → ℕ → Moment
moment cycle line = record { at = cycle; line = line }

abbrev pub owned : ℕ → ℕ → ℕ → Option Owned
owned owner cycle line = Some (record { owner = owner; moment = moment cycle line })

unfoldable pub beside : List Moment → List Moment → Image
beside red blue =
    let i = two_domains [] [] in
    record i { owns = record (own_of i 0) { moments = red } ∷ record (own_of i 1) { moments = blue } ∷ [] }

-- of domains of which nothing came yet
unfoldable pub at_cycle_100 : World → Caches → World
at_cycle_100 w c = with_hart 0 (record w { doms = empty }) c 100

module _ (w : World) (c : Caches) where
  abbrev pub due : List Moment → List Moment → Option Owned
  due red blue = first_due (beside red blue) 0 (at_cycle_100 w c) 2

  -- the earliest, whoever has it
  pub earliest_of_blue : due (moment 20 1 ∷ []) (moment 10 5 ∷ []) ≡ owned 1 10 5
  unfolding first_due interrupts_of beside at_cycle_100 two_domains with_hart put at empty no_dom dom_at_entry
  earliest_of_blue = refl

  pub earliest_of_red : due (moment 10 5 ∷ []) (moment 20 1 ∷ []) ≡ owned 0 10 5
  unfolding first_due interrupts_of beside at_cycle_100 two_domains with_hart put at empty no_dom dom_at_entry
  earliest_of_red = refl

  -- of one cycle that of the least line
  pub least_line_of_blue : due (moment 10 5 ∷ []) (moment 10 1 ∷ []) ≡ owned 1 10 1
  unfolding first_due interrupts_of beside at_cycle_100 two_domains with_hart put at empty no_dom dom_at_entry
  least_line_of_blue = refl

  pub least_line_of_red : due (moment 10 1 ∷ []) (moment 10 5 ∷ []) ≡ owned 0 10 1
  unfolding first_due interrupts_of beside at_cycle_100 two_domains with_hart put at empty no_dom dom_at_entry
  least_line_of_red = refl

  -- none before its cycle
  pub not_yet : due (moment 101 1 ∷ []) [] ≡ None
  unfolding first_due interrupts_of beside at_cycle_100 two_domains with_hart put at empty no_dom dom_at_entry
  not_yet = refl

-- where none is due, the domain makes its own step, which sees no moment of another
abbrev pub own_step : Guards → Image → ℕ → ℕ → World → World
own_step g i d end w = with_part 0 d w (step (setting_by g i d) end (part_of 0 d w))

by_status : (g : Guards) (i : Image) (d end : ℕ) (w : World) (runs : Bool) (o : Option Owned) → o ≡ None
    → delivered_or_step g i 0 d end w (if runs then o else None) ≡ own_step g i d end w
by_status g i d end w true o none = rw none refl
by_status g i d end w false o none = refl

pub else_its_own : (g : Guards) (i : Image) (d end : ℕ) (w : World) → first_due i 0 w i.all.domains ≡ None
    → step_among g i 0 d end w ≡ own_step g i d end w
unfolding step_among
else_its_own g i d end w none =
    by_status g i d end w (is_running (dom_of w d).status) (first_due i 0 w i.all.domains) none
