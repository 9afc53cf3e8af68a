-- What is written isn't nested deeply.
use Rattle.std.proofs.Common.{ℕ, ◌≤◌, ℤ, List, [], ◌∷◌, codes, map, Option, Some, None, option_map, Ordering, Less, Equal, Greater, nat_cmp, arith}
use Rattle.std.specs.Cmp.Lexicographic.{slice_cmp}
use Rattle.std.specs.Ordering.{match_ordering}
use Rattle.toml.specs.Data.{Data, string, integer, Members, no_members, member, depth, items_depth, members_depth}
use Rattle.toml.specs.View.{items_of}
use Rattle.image_record.specs.Record.{Raw, RawSegment, RawMoment, RawDomain, RawEntry, RawMailbox, RawMuldiv}
use Rattle.image_writing.specs.Data.{integers, put_member, put_if, segment_members, segment_data, moment_data, plain_domain, domain_members, domain_data, entry_members, entry_data, mailbox_members, mailbox_data, mail_data, some_mail, cache_members, level2_members, costs_members, muldiv_members, muldiv_data, plain_members, with_targets, with_muldiv, record_members}
use Rattle.image_writing.proofs.Items.{Any, shallow}

-- ---- a value more

put_at : (n : ℕ) (o : Ordering) (l m : List ℕ) (d e : Data) (ms rest : Members) → depth d ≤ n → depth e ≤ n
    → members_depth ms ≤ n → members_depth rest ≤ n
    → members_depth (match_ordering o (member l d (member m e ms)) (member m d ms) (member m e rest)) ≤ n
put_at n Less l m d e ms rest a b c f = omega (arith, a, b, c)
put_at n Equal l m d e ms rest a b c f = omega (arith, a, c)
put_at n Greater l m d e ms rest a b c f = omega (arith, b, f)

put_depth : (n : ℕ) (l : List ℕ) (d : Data) (ms : Members) → depth d ≤ n → members_depth ms ≤ n
    → members_depth (put_member l d ms) ≤ n
put_depth n l d no_members a b = omega (arith, a)
put_depth n l d (member m e ms) a b =
    let here : depth e ≤ n = omega (arith, b) in
    let more : members_depth ms ≤ n = omega (arith, b) in
    put_at n (slice_cmp nat_cmp l m) l m d e ms (put_member l d ms) a here more (put_depth n l d ms a more)

-- ---- the parts

integers_depth : (zs : List ℤ) → items_depth (items_of (map integer zs)) ≤ 0
integers_depth zs = shallow Any integer 0 (λ z. omega arith) zs

texts_depth : (ss : List (List ℕ)) → items_depth (items_of (map string ss)) ≤ 0
texts_depth ss = shallow Any string 0 (λ s. omega arith) ss

moments_depth : (ms : List RawMoment) → items_depth (items_of (map moment_data ms)) ≤ 1
moments_depth ms = shallow Any moment_data 1 (λ m. omega arith) ms

segment_depth : (s : RawSegment) → depth (segment_data s) ≤ 1
unfolding segment_members
segment_depth s = omega arith

segments_depth : (ss : List RawSegment) → items_depth (items_of (map segment_data ss)) ≤ 1
segments_depth ss = shallow Any segment_data 1 segment_depth ss

plain_depth : (o : RawDomain) → members_depth (plain_domain o) ≤ 2
plain_depth o =
    let caps = texts_depth o.caps in
    let colours = integers_depth o.colours in
    let lines = integers_depth o.lines in
    let moments = moments_depth o.moments in
    let segments = segments_depth o.segments in
    omega (arith, caps, colours, lines, moments, segments)

calls_depth : (c : Option (List ℤ)) (ms : Members) → members_depth ms ≤ 2
    → members_depth (put_if (codes "calls") (option_map integers c) ms) ≤ 2
calls_depth None ms h = h
calls_depth (Some zs) ms h =
    let here = integers_depth zs in
    put_depth 2 (codes "calls") (integers zs) ms (omega (arith, here)) h

domain_depth : (o : RawDomain) → depth (domain_data o) ≤ 3
unfolding domain_members
domain_depth o = let all = calls_depth o.calls (plain_domain o) (plain_depth o) in omega (arith, all)

entry_depth : (e : RawEntry) → depth (entry_data e) ≤ 1
unfolding entry_members
entry_depth e = omega arith

-- ---- the image

all_depth : (r : Raw) → members_depth (plain_members r) ≤ 4
unfolding cache_members level2_members costs_members
all_depth r =
    let domains = shallow Any domain_data 3 domain_depth r.domains in
    let entries = shallow Any entry_data 1 entry_depth r.schedule in
    omega (arith, domains, entries)

targets_depth : (x : Option ℤ) (ms : Members) → members_depth ms ≤ 4
    → members_depth (put_if (codes "targets") (option_map integer x) ms) ≤ 4
targets_depth None ms h = h
targets_depth (Some z) ms h = put_depth 4 (codes "targets") (integer z) ms (omega arith) h

muldiv_depth : (c : Option RawMuldiv) (ms : Members) → members_depth ms ≤ 4
    → members_depth (put_if (codes "muldiv") (option_map muldiv_data c) ms) ≤ 4
unfolding muldiv_members
muldiv_depth None ms h = h
muldiv_depth (Some c) ms h = put_depth 4 (codes "muldiv") (muldiv_data c) ms (omega arith) h

mailbox_depth : (b : RawMailbox) → depth (mailbox_data b) ≤ 1
unfolding mailbox_members
mailbox_depth b = omega arith

mail_depth : (bs : List RawMailbox) (ms : Members) → members_depth ms ≤ 4
    → members_depth (put_if (codes "mail") (option_map mail_data (some_mail bs)) ms) ≤ 4
mail_depth [] ms h = h
mail_depth (b ∷ bs) ms h =
    let here = shallow Any mailbox_data 1 mailbox_depth (b ∷ bs) in
    put_depth 4 (codes "mail") (mail_data (b ∷ bs)) ms (omega (arith, here)) h

pub record_depth : (r : Raw) → members_depth (record_members r) ≤ 80
unfolding record_members with_muldiv with_targets
record_depth r =
    let machine = muldiv_depth r.muldiv _ (targets_depth r.targets (plain_members r) (all_depth r)) in
    let all = mail_depth r.mail _ machine in
    omega (arith, all)
