use Rattle.std.proofs.Common.{◌≡◌, ◌≤◌, ◌<◌, Some, None, length, refl, arith}
use Rattle.std.specs.Prelude.{slice_get}
use Rattle.std.proofs.lemmas.Option.{slice_get_read}
use Rattle.sched_table.specs.Schedule.{entry_in}
use Rattle.image_check.specs.Image.{Image, image_from}
use Rattle.world_view.specs.Harts.{Harts}
use Rattle.world_view.specs.Used.{largest_of, count_of}
use Rattle.hart_set.specs.declared.set.State.{State}
use Rattle.hart_set.specs.Standing.{StandsFor}
use Rattle.hart_set.proofs.Called.{of_image, to_value}
use Rattle.hart_set.proofs.Seen.{used_within}
use Rattle.hart_set.proofs.set.HartSet.used.Goals as goal

pub index-requires : goal.index-requires
index-requires c =
    let below =
    of_image c.self.inside.image.now c.self.inside.state c.args.self.now c.self.view_is
    (λ (j : Image). c.args.entry < length j.all.schedule) c.requires.entry in
    omega (arith, below, c.self.invariant.stands.all_entries)

-- the entry's, as it was found
got : (c : goal.After-result-1)
    → slice_get c.self.inside.state.used.items c.args.entry ≡ Some c.index.result.now
got c =
    let t = c.self.inside.state in
    let e = c.args.entry in
    let below =
    of_image c.self.inside.image.now t c.args.self.now c.self.view_is
    (λ (j : Image). e < length j.all.schedule) c.requires.entry in
    let within : e < length t.used.items = omega (arith, below, c.self.invariant.stands.all_entries) in
    slice_get_read t.used.items (length t.used.items) e c.index.result.now refl within c.index.ensures

pub returns-clause-largest : goal.returns-clause-largest
returns-clause-largest c =
    let u = c.index.result.now in
    to_value c.self.inside.image.now c.self.inside.state c.args.self.now c.self.view_is
    (λ (i : Image) (t : State). (s : Harts) → StandsFor i s t
    → u.largest ≡ largest_of c.args.entry s.world.used)
    (λ s stands. stands.each_entry.largest c.args.entry u (got c))

pub returns-clause-count : goal.returns-clause-count
returns-clause-count c =
    let u = c.index.result.now in
    to_value c.self.inside.image.now c.self.inside.state c.args.self.now c.self.view_is
    (λ (i : Image) (t : State). (s : Harts) → StandsFor i s t
    → u.count ≡ count_of c.args.entry s.world.used)
    (λ s stands. stands.each_entry.count c.args.entry u (got c))

pub returns-clause-within : goal.returns-clause-within
returns-clause-within c =
    let t = c.self.inside.state in
    let u = c.index.result.now in
    to_value c.self.inside.image.now t c.args.self.now c.self.view_is
    (λ (j : Image) (v : State). v.off ≡ None → u.largest ≤ (entry_in j.all.schedule c.args.entry).pad)
    (λ all. used_within (image_from c.self.inside.image.now) t c.self.invariant all c.args.entry u (got c))
