-- The text of a record is one.
use Rattle.std.proofs.Common.{◌≡◌, ℕ, ℤ, false, List, [], ◌∷◌, codes, map, Option, Some, None, option_map, Ordering, Less, Equal, Greater, nat_cmp}
use Rattle.std.specs.Cmp.Lexicographic.{slice_cmp}
use Rattle.std.specs.Ordering.{match_ordering}
use Rattle.toml.specs.Data.{Data, string, integer, Members, no_members, member}
use Rattle.toml.specs.View.{items_of}
use Rattle.toml.specs.Text.{IsDocumentText}
use Rattle.image_record.specs.Record.{Raw, RawSegment, RawDomain, RawEntry, RawMailbox, RawMuldiv}
use Rattle.image_writing.specs.Data.{integers, put_member, put_if, segment_members, segment_data, moment_data, plain_domain, domain_members, domain_data, entry_members, entry_data, mailbox_members, mailbox_data, mail_data, some_mail, cache_members, level2_members, costs_members, muldiv_members, muldiv_data, scheduled_members, plain_members, with_targets, with_muldiv, record_members}
use Rattle.image_writing.specs.Text.{text_of}
use Rattle.image_writing.proofs.Floatless.{NoFloat, NoFloatItem, NoFloatMember, one_text}

-- ---- lists, and a value more

each_item : {A : Type 0} (made : A → Data) → ((x : A) → NoFloat (made x)) → (xs : List A) → NoFloatItem (items_of (map made xs))
each_item made each [] = tt
each_item made each (x ∷ xs) = (each x, each_item made each xs)

put_at : (o : Ordering) (l m : List ℕ) (d e : Data) (ms rest : Members) → NoFloat d → NoFloat e → NoFloatMember ms
    → NoFloatMember rest
    → NoFloatMember (match_ordering o (member l d (member m e ms)) (member m d ms) (member m e rest))
put_at Less l m d e ms rest a b c f = (a, (b, c))
put_at Equal l m d e ms rest a b c f = (a, c)
put_at Greater l m d e ms rest a b c f = (b, f)

put_more : (l : List ℕ) (d : Data) (ms : Members) → NoFloat d → NoFloatMember ms → NoFloatMember (put_member l d ms)
put_more l d no_members a b = (a, tt)
put_more l d (member m e ms) a b =
    put_at (slice_cmp nat_cmp l m) l m d e ms (put_member l d ms) a b.0 b.1 (put_more l d ms a b.1)

put_some : {A : Type 0} (l : List ℕ) (made : A → Data) → ((x : A) → NoFloat (made x)) → (o : Option A) (ms : Members)
    → NoFloatMember ms → NoFloatMember (put_if l (option_map made o) ms)
put_some l made each None ms h = h
put_some l made each (Some x) ms h = put_more l (made x) ms (each x) h

-- ---- the parts

no_float_integers : (zs : List ℤ) → NoFloat (integers zs)
no_float_integers zs = each_item integer (λ z. tt) zs

no_float_segment : (s : RawSegment) → NoFloat (segment_data s)
unfolding segment_members
no_float_segment s = (tt, (tt, (tt, (tt, tt))))

no_float_domain : (o : RawDomain) → NoFloat (domain_data o)
unfolding domain_members
no_float_domain o =
    put_some (codes "calls") integers no_float_integers o.calls (plain_domain o) (
      each_item string (λ s. tt) o.caps,
      (
        each_item integer (λ z. tt) o.colours,
        (
          tt,
          (
            each_item integer (λ z. tt) o.lines,
            (each_item moment_data (λ m. (tt, (tt, tt))) o.moments, (tt, (each_item segment_data no_float_segment o.segments, tt))),
          ),
        ),
      ),
    )

no_float_entry : (e : RawEntry) → NoFloat (entry_data e)
unfolding entry_members
no_float_entry e = (tt, (tt, (tt, (tt, tt))))

no_float_mailbox : (b : RawMailbox) → NoFloat (mailbox_data b)
unfolding mailbox_members
no_float_mailbox b = (tt, (tt, tt))

no_float_muldiv : (c : RawMuldiv) → NoFloat (muldiv_data c)
unfolding muldiv_members
no_float_muldiv c = (tt, (tt, tt))

-- ---- the image

no_float_scheduled : (r : Raw) → NoFloatMember (scheduled_members r)
unfolding cache_members
no_float_scheduled r = (tt, (each_item entry_data no_float_entry r.schedule, (tt, ((tt, (tt, (tt, tt))), (tt, tt)))))

no_float_plain : (r : Raw) → NoFloatMember (plain_members r)
unfolding cache_members level2_members costs_members
no_float_plain r = (
  (tt, (tt, (tt, (tt, (tt, (tt, (tt, (tt, (tt, tt))))))))),
  (
    each_item domain_data no_float_domain r.domains,
    (
      tt,
      (
        tt,
        ((tt, (tt, (tt, tt))), ((tt, (tt, (tt, tt))), ((tt, (tt, (tt, (tt, tt)))), (tt, no_float_scheduled r)))),
      ),
    ),
  ),
)

no_float : (r : Raw) → NoFloatMember (record_members r)
unfolding record_members with_muldiv with_targets
no_float r =
    put_some (codes "mail") mail_data (each_item mailbox_data no_float_mailbox) (some_mail r.mail) _
    (put_some (codes "muldiv") muldiv_data no_float_muldiv r.muldiv _
    (put_some (codes "targets") integer (λ z. tt) r.targets (plain_members r) (no_float_plain r)))

pub written : (r : Raw) (t : List ℕ) → IsDocumentText false (record_members r) t → t ≡ text_of r
unfolding text_of
written r t is = one_text (record_members r) t (no_float r) is
