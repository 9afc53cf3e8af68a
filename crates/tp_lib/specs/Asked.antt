-- What a call asks for: a command, where its values are in the ranges that the words of the command line have, and else
-- nothing, as of words that are no command.
use Rattle.std.specs.Prelude.{ℕ, nat_le, if◌then◌else◌, [], ◌∷◌, Option, Some, None, option_and_then, slice_get}
use Rattle.guards.specs.declared.Guard.{Guard}
use Rattle.guards.specs.declared.Guard.TheVariants.{Flush, Prefetch, Pad, Colour, Clone, Irq}
use Rattle.tp_words.specs.declared.Command.{Command}
use Rattle.tp_words.specs.declared.Command.TheVariants.{Run, Alone, Ablate, Harts, Redact}

-- a command of so many slots
abbrev pub if_slots : ℕ → Command → Option Command
if_slots slots c = if nat_le slots 65536 then Some c else None

abbrev pub ask_run : ℕ → Option Command
ask_run slots = if_slots slots (Run slots)

abbrev pub ask_harts : ℕ → ℕ → Option Command
ask_harts slots seed = if_slots slots (Harts slots seed)

abbrev pub ask_alone : ℕ → ℕ → Option Command
ask_alone domain slots = if nat_le domain 31 then if_slots slots (Alone domain slots) else None

abbrev pub ask_redact : ℕ → Option Command
ask_redact domain = if nat_le domain 31 then Some (Redact domain) else None

-- the guard of a number
abbrev pub guard_numbered : ℕ → Option Guard
guard_numbered n = slice_get (Flush ∷ Prefetch ∷ Pad ∷ Colour ∷ Clone ∷ Irq ∷ []) n

abbrev pub ask_ablate : ℕ → ℕ → Option Command
ask_ablate off slots = option_and_then (λ guard. if_slots slots (Ablate guard slots)) (guard_numbered off)
