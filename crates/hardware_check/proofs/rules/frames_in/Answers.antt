use Rattle.std.proofs.Common.{rules, ◌<◌, ◌^◌, arith}
use Rattle.image_record.specs.Models.{raw_model}
use Rattle.image_record.specs.Numbers.{natural_of}
use Rattle.hardware_check.proofs.Parts.{frames_sound, frames_natural}
use Rattle.hardware_check.proofs.rules.frames_in.Goals as goal

pub overflow_cast-result : goal.overflow_cast-result
overflow_cast-result c =
    let most = (frames_sound (raw_model c.args.raw.now) c.requires.frames).most in
    let small : natural_of (raw_model c.args.raw.now).frames < 2 ^ 32 = omega (arith, most) in
    search (rules, small)

pub natural_of-requires : goal.natural_of-requires
natural_of-requires c =
    let natural = frames_natural (raw_model c.args.raw.now) c.requires.frames in
    record { natural = search (rules, natural) }
