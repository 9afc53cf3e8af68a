-- What clap's definitions say of the program's command.
use Rattle.std.proofs.Common.{◌≡◌, ℕ, ℤ, pos, negsuc, Bool, true, false, List, [], ◌∷◌, Option, Some, None, Result, Ok, Err, refl, sym, ap, ap₂, subst, ◌∙◌, arith}
use Rattle.std.proofs.lemmas.Bool.{le-leb}
use Rattle.std.specs.Prelude.{IfOk, ◌||◌, nat_le, int_le, unsigned_abs, FitsSigned, ◌≤ℤ◌, T}
use Rattle.std.specs.Int.{w64}
use Rattle.std.specs.Int.Signed.{le_z_yes}
use Rattle.std.specs.Str.Parse.{ParsesSigned, ExplainsSignedError, HasSignedDigitsIfOk, signed_digits_value}
use Rattle.std.specs.declared.num.ParseIntError.{ParseIntError}
use Rattle.clap.specs.Words.{Kinds, IsAmong, Row, Text, is_simple, is_simple_and_free, subcommand_of, fault_of}
use Rattle.clap.specs.ValueTests.{is_signed_in}
use Rattle.clap.specs.Words.{App, Rule, AddsArg, app_of, rule_of, with_rule}
use Rattle.clap.specs.declared.builder.arg.Arg.{Arg}
use Rattle.clap.specs.declared.builder.command.Command.{Command as ClapCommand}
use Rattle.clap.specs.declared.builder.command.Command.TheViews.{out-Command}
use Rattle.clap.specs.Matches.{ReadsOne}
use Rattle.clap.specs.declared.builder.value_parser.ValueParser.TheVariants as vp
use Rattle.clap.proofs.ValueTestLemmas.{accepts-Accepts, Accepts-accepts}
use Rattle.clap.proofs.WalkLemmas.{both}
use Rattle.clap.specs.declared.error.kind.ErrorKind.{ErrorKind}
use Rattle.clap.proofs.OnLiterals.{clap_on_literals}
use Rattle.tp_words.specs.declared.Command.{Command}
use Rattle.tp_words.specs.Words.{tp_app, number_written, up_to, asked_for, unless_faulty}
use Rattle.tp_words.specs.Partial.{◌>>=◌, ◌>>◌, when}
use Rattle.tp_words.specs.Words.{command}

pub tp_is_simple : is_simple tp_app ≡ true
unfolding clap_on_literals tp_app
tp_is_simple = refl

pub tp_is_free : is_simple_and_free tp_app ≡ true
unfolding clap_on_literals tp_app
tp_is_free = refl

-- a command with one option more
module _ {E : Type 0} (old : ClapCommand) (a : Arg) (own : a.global ≡ false) where
  pub has_option : (r : Result ClapCommand E) (top : App) (rule : Rule) → app_of old ≡ top → rule_of a ≡ rule
      → IfOk r (λ c. AddsArg old a c) → IfOk r (λ c. app_of c ≡ with_rule top rule)
  has_option (Ok c) top rule app same added = added.shape own ∙ ap₂ with_rule app same
  has_option (Err e) top rule app same added = tt

  pub has_own : (r : Result ClapCommand E) → (out-Command old).has_globals ≡ false
      → IfOk r (λ c. AddsArg old a c) → IfOk r (λ c. (out-Command c).has_globals ≡ false)
  has_own (Ok c) none added = added.globals ∙ ap₂ (λ x y. x || y) none own
  has_own (Err e) none added = tt

-- no fault: what the matches ask for
pub taken : (words : List Text) (sub : Option (Text × List Row)) → fault_of tp_app words ≡ []
    → sub ≡ subcommand_of tp_app words → asked_for sub ≡ command words
unfolding command
taken words sub none is = ap asked_for is ∙ sym (ap (λ ks. unless_faulty ks (asked_for (subcommand_of tp_app words))) none)

none_if : (k : ErrorKind) (ks : Kinds) (asked : Option Command) → IsAmong k ks → None ≡ unless_faulty ks asked
none_if k [] asked among = absurd among
none_if k (x ∷ xs) asked among = refl

-- a fault: nothing
pub refused : (words : List Text) (k : ErrorKind) → IsAmong k (fault_of tp_app words) → None ≡ command words
unfolding command
refused words k among = none_if k (fault_of tp_app words) (asked_for (subcommand_of tp_app words)) among

-- ---- the value of an option

by_test : (greatest : ℕ) (text : List ℕ) (r : Option ℕ)
    → (is_signed_in (pos 0) (pos greatest) text ≡ true
    → r ≡ Some (unsigned_abs (signed_digits_value 10 text)))
    → (is_signed_in (pos 0) (pos greatest) text ≡ false → r ≡ None) → r ≡ number_written greatest text
by_test greatest text r passed failed = go (is_signed_in (pos 0) (pos greatest) text) refl
  where
    go : (b : Bool) → is_signed_in (pos 0) (pos greatest) text ≡ b → r ≡ number_written greatest text
    go true e = passed e ∙ sym (ap (λ t. when t >> Some (unsigned_abs (signed_digits_value 10 text))) e)
    go false e = failed e ∙ sym (ap (λ t. when t >> Some (unsigned_abs (signed_digits_value 10 text))) e)

in_range : (greatest : ℕ) (z : ℤ) → int_le (pos 0) z ≡ true → int_le z (pos greatest) ≡ true
    → up_to greatest z ≡ Some (unsigned_abs z)
in_range greatest (pos n) some few = ap (λ t. when t >> Some n) few
in_range greatest (negsuc n) some few = absurd (cc)

-- a number that `i64` reads, if it is 0 to the greatest
read_number : (E : Type 0) (greatest : ℕ) (text : List ℕ) (z : ℤ) → ParsesSigned {E = E} w64 10 text (Ok z)
    → up_to greatest z ≡ number_written greatest text
read_number E greatest text z h = by_test greatest text (up_to greatest z)
    (λ e. let range = both _ _ (both _ _ (both _ _ e).1).1 in
    ap (up_to greatest) h.1 ∙ in_range greatest (signed_digits_value 10 text) range.0 range.1)
    (λ e. go z h e)
  where
    accepted : (n : ℕ) → ParsesSigned {E = E} w64 10 text (Ok (pos n)) → nat_le n greatest ≡ true
        → is_signed_in (pos 0) (pos greatest) text ≡ true
    accepted n h test = Accepts-accepts false (vp.Signed (pos 0) (pos greatest)) text (
      h.0.0,
      h.0.1,
      subst (λ z. pos 0 ≤ℤ z) h.1 (le_z_yes (subst T (sym (le-leb 0 n (omega arith))) tt)),
      subst (λ z. z ≤ℤ pos greatest) h.1 (le_z_yes (subst T (sym test) tt)),
    )

    small : (n : ℕ) → ParsesSigned {E = E} w64 10 text (Ok (pos n))
        → is_signed_in (pos 0) (pos greatest) text ≡ false → (b : Bool) → nat_le n greatest ≡ b
        → up_to greatest (pos n) ≡ None
    small n h e false test = ap (λ t. when t >> Some n) test
    small n h e true test = let yes = accepted n h test in absurd (cc)

    go : (z : ℤ) → ParsesSigned {E = E} w64 10 text (Ok z) → is_signed_in (pos 0) (pos greatest) text ≡ false
        → up_to greatest z ≡ None
    go (pos n) h e = small n h e (nat_le n greatest) refl
    go (negsuc n) h e = refl

-- a text that `i64` doesn't read
read_none : {E : Type 0} (greatest : ℕ) (text : List ℕ) (e : E) → ParsesSigned w64 10 text (Err e)
    → None ≡ number_written greatest text
read_none greatest text e h = by_test greatest text None
    (λ t. let a = accepts-Accepts false (vp.Signed (pos 0) (pos greatest)) text t in absurd (h (a.0, a.1)))
    (λ t. refl)

-- what `i64`'s `from_str` says of a text
abbrev pub ReadAsI64 : List ℕ → Result ℤ ParseIntError → Type 0
ReadAsI64 text r = ParsesSigned w64 10 text r × ExplainsSignedError 10 text r × HasSignedDigitsIfOk text r

-- what is read of the value, if it is 0 to the greatest
pub given : (greatest : ℕ) (t : Option (List ℕ)) (r : Option ℤ) → (t ≡ None → r ≡ None)
    → ((u : List ℕ) → t ≡ Some u → ReadsOne ReadAsI64 u r)
    → (r >>= up_to greatest) ≡ (t >>= number_written greatest)
given greatest None r none value = ap (λ o. o >>= up_to greatest) (none refl)
given greatest (Some u) (Some z) none value = read_number ParseIntError greatest u z (value u refl).0
given greatest (Some u) None none value = let h = value u refl in read_none greatest u h.0 h.1.0

-- what is read is a number of 64 bits
pub fits : (t : Option (List ℕ)) (r : Option ℤ) (z : ℤ) → (t ≡ None → r ≡ None)
    → ((u : List ℕ) → t ≡ Some u → ReadsOne ReadAsI64 u r) → r ≡ Some z → FitsSigned w64 z
fits None r z none value is = let no = none refl in absurd (cc)
fits (Some u) r z none value is =
    let h = (subst (λ o. ReadsOne ReadAsI64 u o) is (value u refl)).0 in
    subst (λ z. FitsSigned w64 z) (sym h.1) h.0.1
