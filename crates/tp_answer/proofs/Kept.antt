-- What the tenant of a domain may hold of an image that was read: it breaks no rule, and the domain's sections are the same.
use Rattle.std.proofs.Common.{◌≡◌, ◌≢◌, ◌∙◌, ℕ, ◌<◌, List, [], length, Result, Ok, Err, sym, ap, ap₂, subst, arith}
use Rattle.std.specs.Prelude.{IfOk}
use Rattle.image_record.specs.Record as text
use Rattle.image_text.specs.Record.{image_of}
use Rattle.image_text.proofs.Ranges.{ranges_law}
use Rattle.image_check.specs.Checking.{broken}
use Rattle.image_check.specs.Own.{Own, owns_of}
use Rattle.image_check.proofs.Owns.{owns_length}
use Rattle.image_check.specs.Image.{image_from}
use Rattle.image_redact.specs.Redacted.{redacted}
use Rattle.image_redact.proofs.Alike.{alike_law}
use Rattle.image_redact.proofs.Kept.{accepted_law}
use Rattle.image_redact.proofs.Leading.{itself_kept}
use Rattle.image_redact.proofs.Seen.{seen_alone, seen_together, runs, runs_too, here, there}
use Rattle.image_writing.specs.Text.{text_of}
use Rattle.image_writing.specs.Writing.{IsWritable}
use Rattle.image_writing.proofs.Writable.{writable_law}
use Rattle.world_view.specs.View.{View}
use Rattle.hart_orders.specs.declared.choice.Choice.{Choice}
use Rattle.std.specs.List.{All}
use Rattle.image_check.specs.Public.{Public}
use Rattle.sched_table.specs.Schedule.{harts_in}
use Rattle.world_view.specs.Harts.{IsOnOneHart}
use Rattle.world_view.specs.Relations.{HasNoMail}
use Rattle.tp_report.specs.Texts.{section}
use Rattle.tp_report.specs.Report.{section_of}
use Rattle.tp_words.specs.declared.Command.TheVariants.{Redact}
use Rattle.tp_answer.specs.Reading.{record_for}
use Rattle.tp_answer.specs.TopCall.{KeptReadsBack}
use Rattle.tp_answer.specs.Runs.{section_among, section_alone}
use Rattle.tp_answer.proofs.Accepting.{value_or, found_in}
use Rattle.tp_answer.proofs.Runs.{same_section, seen_on_one}

pub same_alone : (i : text.Raw) (d n : ℕ) → d < length i.domains
    → section_alone (image_from (redacted i d)) d n ≡ section_alone (image_from i) d n
unfolding section_alone section_of
same_alone i d n l =
    ap₂ (λ (o : Own) (v : View). section d o.name v) (sym ((alike_law i d).own d (itself_kept i d l)))
    (sym (seen_alone i d n l))

module _ (bytes : List ℕ) (i : text.Raw) (d : ℕ) (read : image_of bytes ≡ Ok i) (unbroken : broken i ≡ []) where
  pub kept_accepted : broken (redacted i d) ≡ []
  kept_accepted = accepted_law i d (writable_law bytes i read unbroken).first unbroken

  pub same_among : d < length i.domains → (c : Choice) (n : ℕ) → HasNoMail (image_from i) d
      → section_among (image_from (redacted i d)) c d n ≡ section_among (image_from i) c d n
  same_among l c n none =
      let ranges = ranges_law bytes i read in
      let first = (writable_law bytes i read unbroken).first in
      let own = same_section (image_from i) c n (runs i d ranges first unbroken l) d (here i d ranges first unbroken l) none in
      let kept =
      same_section (image_from (redacted i d)) c n (runs_too i d ranges first unbroken l) d
      (there i d ranges first unbroken l) (subst (λ (p : Public). All (λ box. box.1 ≢ d) p.mail) (alike_law i d).all none) in
      sym kept ∙ same_alone i d n l ∙ own

  pub same_together : d < length i.domains → (c : Choice) (n : ℕ) → IsOnOneHart (image_from i)
      → section_among (image_from (redacted i d)) c d n ≡ section_among (image_from i) c d n
  unfolding section_of
  same_together l c n one =
      let x = image_from i in
      let y = image_from (redacted i d) in
      let ranges = ranges_law bytes i read in
      let first = (writable_law bytes i read unbroken).first in
      let one_too = subst (λ (p : Public). harts_in p.schedule ≡ 1) (alike_law i d).all one in
      let own = seen_on_one x c n (runs i d ranges first unbroken l) one d in
      let kept = seen_on_one y c n (runs_too i d ranges first unbroken l) one_too d in
      ap₂ (λ (o : Own) (v : View). section d o.name v) (sym ((alike_law i d).own d (itself_kept i d l)))
      (sym kept ∙ sym (seen_together i d n ranges first unbroken l one) ∙ own)

-- ---- the record that bytes have

one_record : (bytes : List ℕ) (i j : text.Raw) → image_of bytes ≡ Ok i → image_of bytes ≡ Ok j → i ≡ j
one_record bytes i j first second = ap (value_or i) (sym first ∙ second)

pub record_is : (d : ℕ) (bytes : List ℕ) (i : text.Raw) → record_for (Redact d) bytes ≡ Ok i → image_of bytes ≡ Ok i
unfolding record_for
record_is d bytes i found = (found_in (Redact d) (image_of bytes) i found).is

-- it has the domain where it has more than d of them
pub has_kept : (d n : ℕ) (bytes : List ℕ) (i : text.Raw) → record_for (Redact d) bytes ≡ Ok i → n ≡ length (owns_of i)
    → d < n → (j : text.Raw) → image_of bytes ≡ Ok j → d < length j.domains
has_kept d n bytes i found many l j read =
    let here : d < length i.domains = omega (arith, many, l, owns_length i) in
    subst (λ (k : text.Raw). d < length k.domains) (one_record bytes i j (record_is d bytes i found) read) here

module _ {S E : Type 0} (bytes_of : S → List ℕ) (bytes : List ℕ) (i : text.Raw) (d : ℕ) (read : image_of bytes ≡ Ok i) where
  -- what was written is of the one record
  pub kept_written : (w : Result S E) → IfOk w (λ s. bytes_of s ≡ text_of (redacted i d)) → (j : text.Raw)
      → image_of bytes ≡ Ok j → IfOk w (λ s. bytes_of s ≡ text_of (redacted j d))
  kept_written w is j own =
      subst (λ (k : text.Raw). IfOk w (λ s. bytes_of s ≡ text_of (redacted k d))) (one_record bytes i j read own) is

  -- and reads back
  pub kept_back : (w : Result S E) → IfOk w (λ s. bytes_of s ≡ text_of (redacted i d))
      → IfOk w (λ s. IsWritable i → image_of (bytes_of s) ≡ Ok (redacted i d)) → IfOk w (λ s. KeptReadsBack d bytes)
  kept_back (Ok s) is reads = λ j own unbroken.
      let same = one_record bytes i j read own in
      let w = writable_law bytes i read (subst (λ (k : text.Raw). broken k ≡ []) (sym same) unbroken) in
      subst (λ (k : text.Raw). image_of (text_of (redacted k d)) ≡ Ok (redacted k d)) same
      (ap image_of (sym is) ∙ reads w)
  kept_back (Err e) is reads = tt
