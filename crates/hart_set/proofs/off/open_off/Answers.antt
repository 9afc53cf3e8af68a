use Rattle.std.proofs.Common.{◌≡◌, ◌≢◌, List, Some, length, rules}
use Rattle.std.specs.Prelude.{slice_get}
use Rattle.guards.specs.declared.Guard.TheVariants as guard
use Rattle.kernel_call.specs.declared.domain.Domain.{Domain}
use Rattle.image_check.specs.Image.{image_from}
use Rattle.hart_set.specs.Clones.{HaveClone}
use Rattle.hart_set.proofs.Entered.{entered_back}
use Rattle.hart_set.proofs.off.open_off.Goals as goal

pub returns : goal.returns
returns c =
    let old : List Domain = c.in_ok-memory.domains.items in
    let new : List Domain = c.share_clone.new.domains in
    let kept : c.args.off ≢ Some guard.Clone
    → new ≡ old = rw c.as_mut_slice.ensures.value at c.share_clone.ensures.kept in
    let shared : (x : Domain) → c.args.off ≡ Some guard.Clone → slice_get old 0 ≡ Some x
    → HaveClone x.layout old new =
    rw c.as_mut_slice.ensures.value at c.share_clone.ensures.shared in
    let was : length old ≡ c.in_ok-memory.domains.len = search rules in
    record {
      size = c.in_ok-memory.ensures.size;
      holds = c.in_ok-memory.ensures.holds;
      entered =
          entered_back (image_from c.args.image.now) c.runnable.ensures.runnable old new
          c.in_ok-memory.ensures.opened c.args.off kept shared
          c.in_ok-memory.domains.len was;
    }
