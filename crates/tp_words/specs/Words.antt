-- The words of the command line: the program's command, as clap reads it, and what its matches ask for.
use Rattle.std.specs.Prelude.{ℕ, ℤ, ◌≤◌, ⊤, pos, negsuc, nat_le, unsigned_abs, true, if◌then◌else◌, List, [], ◌∷◌, codes, fold, map, Option, Some, None, option_map, String, string_bytes}
use Rattle.std.specs.Global.{Global}
use Rattle.std.specs.Str.{bytes_eq}
use Rattle.std.specs.Str.Parse.{signed_digits_value}
use Rattle.clap.specs.Words.{App, Rule, Row, Shape, Text, Kinds, new_app, new_rule, with_rule, with_subcommand, one_of, first_of, fault_of, subcommand_of}
use Rattle.clap.specs.Simple.{on_top}
use Rattle.clap.specs.ValueTests.{is_signed_in}
use Rattle.clap.specs.declared.builder.action.ArgAction.TheVariants.{Set}
use Rattle.clap.specs.declared.builder.value_parser.ValueParser.TheVariants as vp
use Rattle.guards.specs.declared.Guard.{Guard}
use Rattle.guards.specs.Names.{named}
use Rattle.tp_words.specs.declared.Command.{Command}
use Rattle.tp_words.specs.declared.Command.TheVariants.{Check, Bound, Run, Alone, Gen, Demo, Ablate, Harts, Redact}
use Rattle.tp_words.specs.Partial.{◌>>=◌, ◌>>◌, when}

-- ---- the program's command

-- `--NAME N`, which must be given, a whole number 0 to the greatest
abbrev pub number_rule : Text → ℕ → Rule
number_rule name greatest = record (new_rule name) {
  long = Some name;
  action = Some Set;
  required = true;
  parser = Some (vp.Signed (pos 0) (pos greatest));
}

abbrev pub slots_rule : Rule
slots_rule = number_rule (codes "slots") 65536

abbrev pub domain_rule : Rule
domain_rule = number_rule (codes "domain") 31

abbrev pub seed_rule : Rule
seed_rule = number_rule (codes "seed") 4294967295

-- `--off TEXT`, which must be given
abbrev pub off_rule : Rule
off_rule = record (new_rule (codes "off")) { long = Some (codes "off"); action = Some Set; required = true }

abbrev pub check_app : App
check_app = new_app (codes "check")

abbrev pub bound_app : App
bound_app = new_app (codes "bound")

abbrev pub run_app : App
run_app = with_rule (new_app (codes "run")) slots_rule

abbrev pub alone_app : App
alone_app = with_rule (with_rule (new_app (codes "alone")) domain_rule) slots_rule

abbrev pub ablate_app : App
ablate_app = with_rule (with_rule (new_app (codes "ablate")) off_rule) slots_rule

abbrev pub harts_app : App
harts_app = with_rule (with_rule (new_app (codes "harts")) slots_rule) seed_rule

abbrev pub redact_app : App
redact_app = with_rule (new_app (codes "redact")) domain_rule

-- one that makes its image of a seed
abbrev pub seed_app : Text → App
seed_app name = with_rule (new_app name) seed_rule

-- a subcommand must be named
abbrev pub required : Shape → Shape
required s = record s { subcommand_required = true }

-- `tp`, with its subcommands
unfoldable pub tp_app : App
tp_app = fold with_subcommand (on_top required (new_app (codes "tp"))) (
    check_app.top
    ∷ bound_app.top
    ∷ run_app.top
    ∷ alone_app.top
    ∷ (seed_app (codes "gen")).top
    ∷ (seed_app (codes "demo")).top
    ∷ ablate_app.top
    ∷ harts_app.top
    ∷ redact_app.top
    ∷ [])

-- ---- what its matches ask for

-- a number that is 0 to the greatest
abbrev pub up_to : ℕ → ℤ → Option ℕ
up_to greatest (pos n) = when (nat_le n greatest) >> Some n
up_to greatest (negsuc n) = None

-- the number that a text writes, where it is a whole number 0 to the greatest, as clap takes it: digits,
-- maybe after a sign; of those after a minus only zeros are in range, and write 0
abbrev pub number_written : ℕ → Text → Option ℕ
number_written greatest text =
    when (is_signed_in (pos 0) (pos greatest) text) >> Some (unsigned_abs (signed_digits_value 10 text))

-- the value of `--NAME`
unfoldable pub number_in : Text → ℕ → List Row → Option ℕ
number_in name greatest rows = one_of name rows >>= number_written greatest

-- clap takes no words without a subcommand, no other name of one, and no text of an option that writes no
-- such number: these are never asked for
abbrev pub or_zero : Option ℕ → ℕ
or_zero None = 0
or_zero (Some n) = n

abbrev pub never_asked : Command
never_asked = Run 0

abbrev pub slots_in : List Row → ℕ
slots_in rows = or_zero (number_in (codes "slots") 65536 rows)

abbrev pub domain_in : List Row → ℕ
domain_in rows = or_zero (number_in (codes "domain") 31 rows)

abbrev pub seed_in : List Row → ℕ
seed_in rows = or_zero (number_in (codes "seed") 4294967295 rows)

-- the guard whose name is the value of `--off`
unfoldable pub guard_in : List Row → Option Guard
guard_in rows = first_of (codes "off") rows >>= named

-- what a subcommand asks for, by its name and what was found for its options: one case for each;
-- nothing where a guard is to be named, and none is
abbrev pub asked_by : Text → List Row → Option Command
asked_by name rows =
    if bytes_eq name (codes "check") then Some Check
    else if bytes_eq name (codes "bound") then Some Bound
    else if bytes_eq name (codes "run") then Some (Run (slots_in rows))
    else if bytes_eq name (codes "alone") then Some (Alone (domain_in rows) (slots_in rows))
    else if bytes_eq name (codes "gen") then Some (Gen (seed_in rows))
    else if bytes_eq name (codes "demo") then Some (Demo (seed_in rows))
    else if bytes_eq name (codes "ablate") then option_map (λ off. Ablate off (slots_in rows)) (guard_in rows)
    else if bytes_eq name (codes "harts") then Some (Harts (slots_in rows) (seed_in rows))
    else if bytes_eq name (codes "redact") then Some (Redact (domain_in rows))
    else Some never_asked

abbrev pub asked_for : Option (Text × List Row) → Option Command
asked_for None = Some never_asked
asked_for (Some p) = asked_by p.0 p.1

-- a command only where there is no fault; help that is asked for is a fault, too
abbrev pub unless_faulty : Kinds → Option Command → Option Command
unless_faulty [] asked = asked
unless_faulty (k ∷ ks) asked = None

-- the words of the command line, as bytes
abbrev pub words_of : List (String Global) → List (List ℕ)
words_of words = map (λ w. string_bytes w) words

-- what the words ask for, where clap finds no fault in them and a guard that is to be off is one;
-- the first word is the program's name
unfoldable pub command : List (List ℕ) → Option Command
command words = unless_faulty (fault_of tp_app words) (asked_for (subcommand_of tp_app words))

-- ---- what is known of a command

-- its slots are at most 65,536, and its seed has 32 bits
abbrev pub IsInRange : Command → Type 0
IsInRange Check = ⊤
IsInRange Bound = ⊤
IsInRange (Run n) = n ≤ 65536
IsInRange (Alone d n) = n ≤ 65536
IsInRange (Gen s) = s ≤ 4294967295
IsInRange (Demo s) = s ≤ 4294967295
IsInRange (Ablate off n) = n ≤ 65536
IsInRange (Harts n s) = (n ≤ 65536) × (s ≤ 4294967295)
IsInRange (Redact d) = ⊤

-- it works on an image that it reads; the others make theirs of a seed, and read nothing
abbrev pub Reads : Command → Type 0
Reads (Gen s) = ⊥
Reads (Demo s) = ⊥
Reads _ = ⊤
