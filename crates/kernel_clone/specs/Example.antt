-- Worked footprints, counted out by hand; and which calls may be made.
use Rattle.std.specs.Prelude.{◌≡◌, ℕ, ◌+◌, ◌-◌, ◌^◌, ◌&&◌, nat_le, nat_lt, true, false, List, [], ◌∷◌, Option, Some, None, refl}
use Rattle.kernel_clone.specs.Footprints.{Layout, WorkDone, LineTouch, touch_of, touches, text_touches, stack_touches, data_touches, shared_touches, zeroed_touches, entry_touches}
use Rattle.kernel_clone.specs.Permissions.{is_call, calls_end, may_make, every_call, permitted, calls_below, calls_of, without_mail}
use Rattle.kernel_clone.specs.declared.Kind.TheVariants.{Fetch, Load, Store}

-- text in frames 1 and 3, stack in 5, data in 7; two colours
abbrev layout : ℕ → ℕ → Layout
layout line shared =
    record { text = 1; more_text = 3; stack = 5; data_frame = 7; line = line; shared = shared; colours = 2 }

abbrev done : ℕ → Option ℕ → List ℕ → WorkDone
done op zeroed entries = record { op = op; zeroed = zeroed; entries = entries }

abbrev fetch : ℕ → LineTouch
fetch line = touch_of Fetch line

abbrev load : ℕ → LineTouch
load line = touch_of Load line

abbrev store : ℕ → LineTouch
store line = touch_of Store line

-- 64 lines a frame, 8 shared lines: an ALLOC that zeroes frame 9 (576 is 9 * 64)
fresh_page : touches (layout 64 512) (done 2 (Some 9) []) ≡
    fetch 72 ∷ fetch 73 ∷ fetch 74 ∷ fetch 75 ∷ store 320 ∷ store 321 ∷ store 452 ∷ store 453 ∷ load 2
    ∷ store 576 ∷ store 577 ∷ store 578 ∷ store 579 ∷ store 580 ∷ store 581 ∷ store 582 ∷ store 583
    ∷ store 584 ∷ store 585 ∷ store 586 ∷ store 587 ∷ store 588 ∷ store 589 ∷ store 590 ∷ store 591
    ∷ store 592 ∷ store 593 ∷ store 594 ∷ store 595 ∷ store 596 ∷ store 597 ∷ store 598 ∷ store 599
    ∷ store 600 ∷ store 601 ∷ store 602 ∷ store 603 ∷ store 604 ∷ store 605 ∷ store 606 ∷ store 607
    ∷ store 608 ∷ store 609 ∷ store 610 ∷ store 611 ∷ store 612 ∷ store 613 ∷ store 614 ∷ store 615
    ∷ store 616 ∷ store 617 ∷ store 618 ∷ store 619 ∷ store 620 ∷ store 621 ∷ store 622 ∷ store 623
    ∷ store 624 ∷ store 625 ∷ store 626 ∷ store 627 ∷ store 628 ∷ store 629 ∷ store 630 ∷ store 631
    ∷ store 632 ∷ store 633 ∷ store 634 ∷ store 635 ∷ store 636 ∷ store 637 ∷ store 638 ∷ store 639 ∷ []
unfolding touches text_touches stack_touches data_touches shared_touches zeroed_touches entry_touches
fresh_page = refl

-- a leave: its text is in the second frame, and no shared line is loaded
leave : touches (layout 64 512) (done 16 None []) ≡
    fetch 192 ∷ fetch 193 ∷ fetch 194 ∷ fetch 195 ∷ store 320 ∷ store 321 ∷ store 480 ∷ []
unfolding touches text_touches stack_touches data_touches shared_touches zeroed_touches entry_touches
leave = refl

-- a REVOKE that wrote entries 3 and 16 of the table in frame 11, and the last of that in frame 13
revoke : touches (layout 64 512) (done 8 None (45068 ∷ 45120 ∷ 57340 ∷ [])) ≡
    fetch 96 ∷ fetch 97 ∷ fetch 98 ∷ fetch 99 ∷ store 320 ∷ store 321 ∷ store 464 ∷ store 465 ∷ load 0
    ∷ store 704 ∷ store 705 ∷ store 895 ∷ []
unfolding touches text_touches stack_touches data_touches shared_touches zeroed_touches entry_touches
revoke = refl

-- 32 lines a frame: the text's last four lines, and the data's last two
delivery : touches (layout 128 8192) (done 15 None []) ≡
    fetch 124 ∷ fetch 125 ∷ fetch 126 ∷ fetch 127 ∷ store 160 ∷ store 161 ∷ store 254 ∷ store 255 ∷ load 15
    ∷ []
unfolding touches text_touches stack_touches data_touches shared_touches zeroed_touches entry_touches
delivery = refl

-- the next two operations begin at the first line of both again
leave_again : touches (layout 128 8192) (done 16 None []) ≡
    fetch 32 ∷ fetch 33 ∷ fetch 34 ∷ fetch 35 ∷ store 160 ∷ store 161 ∷ store 224 ∷ []
unfolding touches text_touches stack_touches data_touches shared_touches zeroed_touches entry_touches
leave_again = refl

enter_again : touches (layout 128 8192) (done 17 None []) ≡
    fetch 36 ∷ fetch 37 ∷ fetch 38 ∷ fetch 39 ∷ store 160 ∷ store 161 ∷ store 226 ∷ []
unfolding touches text_touches stack_touches data_touches shared_touches zeroed_touches entry_touches
enter_again = refl

-- no call both zeroes a frame and writes an entry; if one did, the frame would come first
both : touches (layout 128 8192) (done 5 (Some 9) (45068 ∷ [])) ≡
    fetch 52 ∷ fetch 53 ∷ fetch 54 ∷ fetch 55 ∷ store 160 ∷ store 161 ∷ store 234 ∷ store 235 ∷ load 5
    ∷ store 288 ∷ store 289 ∷ store 290 ∷ store 291 ∷ store 292 ∷ store 293 ∷ store 294 ∷ store 295
    ∷ store 296 ∷ store 297 ∷ store 298 ∷ store 299 ∷ store 300 ∷ store 301 ∷ store 302 ∷ store 303
    ∷ store 304 ∷ store 305 ∷ store 306 ∷ store 307 ∷ store 308 ∷ store 309 ∷ store 310 ∷ store 311
    ∷ store 312 ∷ store 313 ∷ store 314 ∷ store 315 ∷ store 316 ∷ store 317 ∷ store 318 ∷ store 319
    ∷ store 352 ∷ []
unfolding touches text_touches stack_touches data_touches shared_touches zeroed_touches entry_touches
both = refl

-- ---- which calls may be made

-- ALLOC and REVOKE, 2 and 8
revoke_may : may_make 260 8 ≡ true
unfolding may_make
revoke_may = refl

delete_may_not : may_make 260 7 ≡ false
unfolding may_make
delete_may_not = refl

-- a call that may not be made is one that is none
revoke_is_made : permitted 260 8 ≡ 8
unfolding may_make
revoke_is_made = refl

delete_is_none : permitted 260 7 ≡ 18
unfolding may_make
delete_is_none = refl

-- bits above those of the calls let no call be made
no_call : permitted 32768 0 ≡ 18
unfolding may_make
no_call = refl

every_call_is : every_call ≡ 1605631
unfolding calls_below
every_call_is = refl

-- the last call is the greatest number below the end
last_is : is_call (calls_end - 1) ≡ true
last_is = refl

two_lowest : calls_of (λ n. nat_lt n 2) ≡ 3
unfolding calls_below
two_lowest = refl

-- bits 15 to 18 are no call's
between : calls_of (λ n. nat_le 15 n && nat_lt n 19) ≡ 0
unfolding calls_below
between = refl

-- without 19 and 20
on_no_mailboxes : without_mail every_call ≡ 32767
unfolding calls_below may_make
on_no_mailboxes = refl

sends_alone : without_mail (2 ^ 19 + 1) ≡ 1
unfolding calls_below may_make
sends_alone = refl

-- a test of more numbers than there are calls
highest : calls_of (λ n. nat_le 13 n) ≡ 1597440
unfolding calls_below
highest = refl
