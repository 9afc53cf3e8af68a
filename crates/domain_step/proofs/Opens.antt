-- A slot in which moments of all domains come, of the code and of the definitions.
use Rattle.std.proofs.Common.{◌≡◌, ℕ, ◌<◌, ◌≤◌, List, Option, sym, subst, ◌∙◌}
use Rattle.phys_mem.specs.Contents.{Contents}
use Rattle.repl_policy.specs.declared.AnyPolicy.{AnyPolicy}
use Rattle.guards.specs.declared.Guard.{Guard}
use Rattle.mem_system.specs.Contents.{SystemContents}
use Rattle.image_check.specs.Image.{Image}
use Rattle.mail_slots.specs.Boxes.{Boxes}
use Rattle.kernel_call.specs.declared.domain.Domain.{Domain}
use Rattle.world_view.specs.Machine.{World, clock_of, guards_of, step_among, open_slot}
use Rattle.world_view.proofs.opening.Separate.{separated}
use Rattle.world_view.proofs.runs.GuardLaws.{open_step, open_done}
use Rattle.domain_step.specs.InSlot.{StandsIn}
use Rattle.domain_step.specs.OpenSlot.{Stands, Becomes}

-- whatever the old ones stand for, the new ones stand for a world from which as much of the slot is left
abbrev pub OpensAlong : ℕ → ℕ → Contents → Boxes → SystemContents AnyPolicy → List Domain → ℕ
    → Contents → Boxes → SystemContents AnyPolicy → List Domain → ℕ → Type 0
OpensAlong d end memory mail system domains now memory' mail' system' domains' later = (off : Option Guard)
    (i : Image) (w : World)
    → StandsIn off i d w memory mail system domains now
    → (x : World) × StandsIn off i d x memory' mail' system' domains' later
    × (open_slot (guards_of off i) i d end x ≡ open_slot (guards_of off i) i d end w)

module _ (d end : ℕ) (memory between memory' : Contents) (mail midway mail' : Boxes)
    (system middle system' : SystemContents AnyPolicy) (old now new : List Domain) (first clock later : ℕ) where
  -- one event more
  pub along_more : clock < end
      → OpensAlong d end memory mail system old first between midway middle now clock
      → Becomes (λ g i w. step_among g i 0 d end w) d between midway middle now clock memory' mail' system' new later
      → OpensAlong d end memory mail system old first memory' mail' system' new later
  along_more below so_far becomes off i w is =
      let (x, at, same) = so_far off i w is in
      let early : clock_of 0 x < end = subst (λ (n : ℕ). n < end) at.machine.time below in (
        step_among (guards_of off i) i 0 d end x,
        becomes off i x at,
        sym (open_step i (separated i at.runnable) (guards_of off i) d end x early) ∙ same,
      )

module _ (d end : ℕ) (memory memory' : Contents) (mail mail' : Boxes) (system system' : SystemContents AnyPolicy)
    (old new : List Domain)
    (first clock : ℕ) where
  -- all of them
  pub along_over : OpensAlong d end memory mail system old first memory' mail' system' new clock → end ≤ clock
      → Becomes (λ g i w. open_slot g i d end w) d memory mail system old first memory' mail' system' new clock
  along_over so_far past off i w is =
      let (x, at, same) = so_far off i w is in
      let over : end ≤ clock_of 0 x = subst (λ (n : ℕ). end ≤ n) at.machine.time past in
      subst (λ (v : World). StandsIn off i d v memory' mail' system' new clock)
      (sym (open_done i (separated i at.runnable) (guards_of off i) d end x over) ∙ same) at

-- they stand for some world still
pub stands_on : (d : ℕ) (memory memory' : Contents) (mail mail' : Boxes) (system system' : SystemContents AnyPolicy)
    (old new : List Domain) (now later end : ℕ)
    → Becomes (λ g i w. step_among g i 0 d end w) d memory mail system old now memory' mail' system' new later
    → Stands d memory mail system old now → Stands d memory' mail' system' new later
stands_on d memory memory' mail mail' system system' old new now later end becomes s = record {
  off = s.off;
  image = s.image;
  world = step_among (guards_of s.off s.image) s.image 0 d end s.world;
  stands = becomes s.off s.image s.world s.stands;
}
