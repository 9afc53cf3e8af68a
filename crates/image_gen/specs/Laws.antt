-- What holds of the image of every seed.
use Rattle.std.specs.Prelude.{◌≡◌, ℕ, ◌<◌, ◌^◌, Bool, [], map, Some}
use Rattle.rand_pcg.specs.Lcg.{Lcg}
use Rattle.rv_decode.specs.Table.{decode_of}
use Rattle.sched_table.specs.Schedule.{harts_in}
use Rattle.image_check.specs.Image.{image_from}
use Rattle.image_check.specs.Checking.{broken}
use Rattle.image_gen.specs.Program.{program}
use Rattle.image_gen.specs.Instructions.{instructions}
use Rattle.image_gen.specs.Generated.{generated}

-- it breaks no rule
abbrev pub AcceptedLaw : Type 0
AcceptedLaw = (seed : ℕ) → seed < 2 ^ 64 → broken (generated seed) ≡ []

-- it has one hart
abbrev pub OneHartLaw : Type 0
OneHartLaw = (seed : ℕ) → harts_in (image_from (generated seed)).all.schedule ≡ 1

-- the words of a program decode to its instructions, on a machine with products and divisions or without
abbrev pub DecodedLaw : Type 0
DecodedLaw = (muldiv : Bool) (g : Lcg) → map (decode_of muldiv) (program g) ≡ map Some (instructions g)
