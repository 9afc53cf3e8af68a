-- What a hart's event makes of the world, of its progress and of the switches' cycles.
use Rattle.std.proofs.Common.{None, ◌≡◌, ℕ, suc, Bool, true, false, true≢false, ltb, [], ◌∷◌, ◌++◌, Option, ap, sym, ◌∙◌, refl, ◌<◌}
use Rattle.std.specs.Prelude.{if◌then◌else◌}
use Rattle.sched_table.specs.Schedule.{switch_entry, place_on, outgoing}
use Rattle.image_check.specs.Image.{Image}
use Rattle.world_view.specs.Mail.{switched_boxes, came_to}
use Rattle.world_view.specs.Machine.{World, clock_of, with_part, with_hart, guarded, switch_on, cycles_on}
use Rattle.world_view.specs.Harts.{Harts, Progress, image_on, domain_in, end_on, progress_of, slots_of, proceeds, begins, runs, goes_on, next, next_by, settles}
use Rattle.world_view.proofs.harts.Runs.{progress-same}
use Rattle.world_view.proofs.harts.Events.{begun_world, begins_in}
use Rattle.world_view.proofs.harts.Always.{next_out}

-- in its slot k still, or past its end
abbrev pub stands : ℕ → Bool → Progress
stands k true = record { slots = k; inside = true }
stands k false = record { slots = suc k; inside = false }

pub stands_goes : (k : ℕ) (b : Bool) → (stands k b).inside ≡ true → (stands k b).slots ≡ k
stands_goes k true e = refl
stands_goes k false e = absurd (true≢false (sym e))

pub stands_ends : (k : ℕ) (b : Bool) → (stands k b).inside ≡ false → (stands k b).slots ≡ suc k
stands_ends k true e = absurd (true≢false e)
stands_ends k false e = refl

module _ (i : Image) (h : ℕ) (s : Harts) where
  abbrev k : ℕ
  k = slots_of h s

  abbrev pub ran : World
  ran = runs None i h k s.world

  -- whether its slot goes on
  abbrev pub is_early : Bool
  is_early = ltb (clock_of h ran) (end_on i h k)

  works : (progress_of h s).inside ≡ true → next i h s ≡ goes_on None i h s
  unfolding next_by
  works now = ap (λ (b : Bool). if b then goes_on None i h s else begins None i h s) now

  turns : (progress_of h s).inside ≡ false → next i h s ≡ begins None i h s
  unfolding next_by
  turns out = ap (λ (b : Bool). if b then goes_on None i h s else begins None i h s) out

  -- ---- an event of a slot

  world_if : (b : Bool) → (if b then proceeds h s ran k true else proceeds h s ran (suc k) false).world ≡ ran
  unfolding proceeds
  world_if true = refl
  world_if false = refl

  progress_if : (b : Bool)
      → progress_of h (if b then proceeds h s ran k true else proceeds h s ran (suc k) false) ≡ stands k b
  progress_if true = progress-same h s ran k true
  progress_if false = progress-same h s ran (suc k) false

  pub works_world : (progress_of h s).inside ≡ true → (next i h s).world ≡ ran
  unfolding goes_on settles guarded
  works_world now = ap (λ (t : Harts). t.world) (works now) ∙ world_if is_early

  pub works_progress : (progress_of h s).inside ≡ true → progress_of h (next i h s) ≡ stands k is_early
  unfolding goes_on settles guarded
  works_progress now = ap (progress_of h) (works now) ∙ progress_if is_early

  ran_used : ran.used ≡ s.world.used
  unfolding runs with_part with_hart guarded
  ran_used = refl

  pub works_used : (progress_of h s).inside ≡ true → (next i h s).world.used ≡ s.world.used
  works_used now = ap (λ (w : World). w.used) (works_world now) ∙ ran_used

  ran_came : ran.came ≡ s.world.came
  unfolding runs with_part with_hart guarded
  ran_came = refl

  pub works_came : (progress_of h s).inside ≡ true → (next i h s).world.came ≡ s.world.came
  works_came now = ap (λ (w : World). w.came) (works_world now) ∙ ran_came

  -- ---- a switch

  pub turns_progress : (progress_of h s).inside ≡ false → clock_of h (begun_world i h s) < end_on i h k
      → progress_of h (next i h s) ≡ record { slots = k; inside = true }
  turns_progress out soon =
      ap (progress_of h) (turns out ∙ begins_in i h s soon) ∙ progress-same h s (begun_world i h s) k true

  -- to which entry it belongs, and its cycles
  abbrev pub place : ℕ → ℕ
  place n = place_on i.all.schedule h (switch_entry (image_on i h).all.schedule n)

  abbrev pub cycles : ℕ → World → ℕ
  cycles n w = cycles_on (guarded (image_on i h)) (image_on i h) h n w

  begun_used : (begun_world i h s).used ≡ s.world.used ++ (place k, cycles k s.world) ∷ []
  unfolding switch_on with_hart
  begun_used = refl

  pub turns_used : (progress_of h s).inside ≡ false
      → (next i h s).world.used ≡ s.world.used ++ (place k, cycles k s.world) ∷ []
  turns_used out = ap (λ (w : World). w.used) (next_out i h s out) ∙ begun_used

  -- who leaves, and who enters
  abbrev pub leaving : ℕ → Option ℕ
  leaving n = outgoing (image_on i h).all.schedule n

  begun_boxes : (begun_world i h s).storage.boxes ≡ switched_boxes (leaving k) (domain_in i h k) s.world.storage.boxes
  unfolding switch_on with_hart
  begun_boxes = refl

  pub turns_boxes : (progress_of h s).inside ≡ false
      → (next i h s).world.storage.boxes ≡ switched_boxes (leaving k) (domain_in i h k) s.world.storage.boxes
  turns_boxes out = ap (λ (w : World). w.storage.boxes) (next_out i h s out) ∙ begun_boxes

  begun_came : (begun_world i h s).came ≡ s.world.came ++ came_to (leaving k) (domain_in i h k) s.world.storage.boxes ∷ []
  unfolding switch_on with_hart
  begun_came = refl

  pub turns_came : (progress_of h s).inside ≡ false
      → (next i h s).world.came ≡ s.world.came ++ came_to (leaving k) (domain_in i h k) s.world.storage.boxes ∷ []
  turns_came out = ap (λ (w : World). w.came) (next_out i h s out) ∙ begun_came
