-- A machine's geometry.
use Rattle.std.proofs.Common.{refl}
use Rattle.hardware_check.specs.Models.{hardware_model}
use Rattle.world_view.proofs.touches.Geometries.{parts_sound, parts_hierarchy}
use Rattle.world_view.proofs.hierarchy.geometry_of.Goals as goal

pub returns-clause-sound : goal.returns-clause-sound
returns-clause-sound c =
    parts_sound (hardware_model c.args.hardware.now) _ _ _ _ c.cache_of.ensures.value
    c.cache_of-2.ensures.value c.cache_of-3.ensures.value c.cache_of-4.ensures.value c.requires.hardware

pub returns-clause-hierarchy : goal.returns-clause-hierarchy
returns-clause-hierarchy c =
    parts_hierarchy (hardware_model c.args.hardware.now) _ _ _ _ c.cache_of.ensures.value
    c.cache_of-2.ensures.value c.cache_of-3.ensures.value c.cache_of-4.ensures.value
    c.args.hardware.now.costs
    c.args.hardware.now.muldiv refl refl
