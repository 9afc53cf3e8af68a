-- What comes to a domain as a slot of it begins, and that nothing comes in any other event.
use Rattle.std.proofs.Common.{◌≡◌, ◌++◌, ℕ, Bool, [], ◌∷◌, map, Option, Some, inl, inr, ap, sym, ◌∙◌, eq-eqb}
use Rattle.std.specs.Prelude.{slice_get, option_map, if◌then◌else◌}
use Rattle.std.proofs.lemmas.Option.{slice_get-map, get_or_from_slice_get}
use Rattle.image_check.specs.Image.{Image}
use Rattle.mail_slots.specs.Boxes.{Mailbox, Boxes}
use Rattle.mail_slots.specs.Sides.{Arrival, arriving, arrival}
use Rattle.world_view.specs.Mail.{arrivals_in, left_boxes, came_to}
use Rattle.world_view.specs.Machine.{arrivals}
use Rattle.world_view.specs.Harts.{Harts, domain_on, next, harts}
use Rattle.world_view.specs.Laws.{leaves_on}
use Rattle.world_view.specs.MailLaws.{Enters, words_of, Arrives, ArrivesLaw, NothingElseLaw}
use Rattle.world_view.proofs.runs.Arrivals.{one_more, none_more}
use Rattle.world_view.proofs.harts.Isolation.{next_law}
use Rattle.world_view.proofs.mail.Moves.{box_left, box_switched, begins_box, left_off, left_waiting, left_unread, left_to, left_at, switched_at}
use Rattle.world_view.proofs.mail.BoxEvents.{in_or_out, slot_came, switched_came, switched_are, leaves_so, put_in_so, none_so}

-- of what comes to a domain, the words of a box to it
words_at : (d a : ℕ) (boxes : Boxes) (b : Mailbox) → slice_get boxes a ≡ Some b → b.to ≡ d
    → words_of a (arrival d boxes) ≡ b.sent
unfolding arrival
words_at d a boxes b there is =
    get_or_from_slice_get (map (arriving d) boxes) a (arriving d b) []
    (slice_get-map (arriving d) boxes a ∙ ap (option_map (arriving d)) there)
    ∙ ap (λ (t : Bool). if t then b.sent else []) (eq-eqb b.to d is)

module _ (i : Image) (h : ℕ) (s : Harts) where
  abbrev out : Option ℕ
  out = leaves_on i h s

  abbrev into : ℕ
  into = domain_on i h s

  module _ (a : ℕ) (box : Mailbox) (there : slice_get s.world.storage.boxes a ≡ Some box) (enters : Enters i h box.to s) where
    -- its own words go off first
    abbrev left : Mailbox
    left = box_left out box

    abbrev words : Arrival
    words = arrival into (left_boxes out s.world.storage.boxes)

    to_it : left.to ≡ into
    to_it = left_to out box ∙ sym enters.who

    words_are : words_of a words ≡ left.sent
    words_are =
        words_at into a (left_boxes out s.world.storage.boxes) left
        (left_at out s.world.storage.boxes a ∙ ap (option_map (box_left out)) there) to_it

    came : arrivals box.to (next i h s).world ≡ arrivals box.to s.world ++ words ∷ []
    came =
        ap (arrivals_in box.to) (switched_came i h s enters.outside)
        ∙ one_more box.to s.world.came (came_to out into s.world.storage.boxes) enters.who

    pub arrives : Arrives i h a box s
    arrives =
        let moved = (begins_box into left).own to_it in
        record {
          words = words;
          comes = came;
          at_once = λ ws g.
              let put_in = put_in_so i h s a box there ws g in
              words_are ∙ left_off out box (leaves_so i h s a box there ws g) (λ e. g.some (sym put_in ∙ e)) ∙ put_in;
          waited = λ none. words_are ∙ left_waiting out box (none_so i h s a box there enters.outside none);
          later = box_switched out into box;
          there =
              ap (λ (bs : Boxes). slice_get bs a) (switched_are i h s enters.outside)
              ∙ switched_at out into s.world.storage.boxes a ∙ ap (option_map (box_switched out into)) there;
          whole = λ some. moved.whole (λ e. some (words_are ∙ e)) ∙ sym words_are;
          unread = λ none. moved.none (sym words_are ∙ none) ∙ left_unread out box;
          once = moved.emptied;
        }

  pub nothing_else : (d : ℕ) → (Enters i h d s → ⊥) → arrivals d (next i h s).world ≡ arrivals d s.world
  nothing_else d not = elim (in_or_out i h s) [
    | inl within ↦ ap (arrivals_in d) (slot_came i h s within)
    | inr outside ↦
        ap (arrivals_in d) (switched_came i h s outside)
        ∙ none_more d s.world.came (came_to out into s.world.storage.boxes)
        (λ same. not (record { outside = outside; who = same }))
  ]

pub arrives_law : ArrivesLaw
arrives_law i h a order box r below there enters = arrives i h (harts i order) a box there enters

pub nothing_else_law : NothingElseLaw
nothing_else_law i h d order r below not =
    ap (λ (t : Harts). arrivals d t.world) (next_law i order h) ∙ nothing_else i h (harts i order) d not
