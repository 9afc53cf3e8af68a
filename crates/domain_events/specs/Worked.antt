-- Images run event by event: what the events of their domains are, as an independent model of the machine tells it.
use Rattle.std.specs.Prelude.{◌≡◌, ℕ, zero, suc, false, List, [], ◌∷◌, ◌++◌, None, replicate, refl}
use Rattle.cycle_cost.specs.Costs.{CostTable}
use Rattle.sched_table.specs.declared.schedule.Entry.{Entry}
use Rattle.irq_partition.specs.declared.Moment.{Moment}
use Rattle.domain_check.specs.declared.capabilities.InitialCap.TheVariants.{Irq}
use Rattle.hardware_check.specs.declared.hardware.Policy.TheVariants.{Lru}
use Rattle.hardware_check.specs.Hardware.{Hardware, CacheShape}
use Rattle.image_check.specs.Public.{Public}
use Rattle.image_check.specs.Own.{Own, Segment, no_own}
use Rattle.image_check.specs.Image.{Image}
use Rattle.mem_system.specs.Tally.{Tally, none}
use Rattle.mem_system.specs.TallyLaws.{in_first, in_memory, in_second}
use Rattle.world_view.specs.Harts.{public_on}
use Rattle.domain_events.specs.Events.{Observed, Slot, slots_mailed, logged}
use Rattle.domain_events.specs.Events.Happening.{Ran, Delivered, Jumped}
use Rattle.tp_base.specs.Table as table
use Rattle.tp_base.specs.Act.{◌>>=◌, ◌>>◌}
use Rattle.tp_base.specs.Act as act
use Rattle.phys_mem.specs.Mem as mem
use Rattle.sv32_walk.specs.Walk as walks
use Rattle.sv32_walk.specs.PageTableEntry as entries
use Rattle.thread_set.specs.Threads as threads
use Rattle.frame_colours.specs.Colours as colours
use Rattle.irq_partition.specs.Interrupts as interrupts
use Rattle.kernel_clone.specs.Footprints as footprints
use Rattle.kernel_clone.specs.Permissions as permissions
use Rattle.call_table.specs.Domain as domain
use Rattle.call_table.specs.Calls as calls
use Rattle.call_table.specs.Mail as mail_calls
use Rattle.call_table.specs.Claims as claims
use Rattle.mem_system.specs.Hierarchy as levels
use Rattle.mem_system.specs.Cost as touches
use Rattle.mem_system.specs.Operations as operations
use Rattle.mem_system.specs.Translation as translation
use Rattle.mem_system.specs.Tally as tally
use Rattle.domain_check.specs.Pages as pages
use Rattle.sched_table.specs.Schedule as schedule
use Rattle.world_view.specs.Opening as opening
use Rattle.world_view.specs.Kernel as kernel
use Rattle.world_view.specs.Instruction as instruction
use Rattle.world_view.specs.Cost as hierarchy
use Rattle.world_view.specs.Event as event
use Rattle.world_view.specs.Mail as arrivals
use Rattle.world_view.specs.Machine as machine
use Rattle.world_view.specs.Harts as harts
use Rattle.domain_events.specs.Events as events

-- all that they compute with
unfoldable everything : ℕ
unfolding table.empty table.at table.put
    act.go_on act.give act.check act.either act.note
    mem.word mem.frame_at
    walks.first_level walks.last_level walks.entry_address walks.from_table walks.from_entry walks.walk
    walks.leaf
    entries.ppn entries.rights_permit entries.table_word entries.leaf_word entries.vpn_1 entries.vpn_0
    entries.with_ppn entries.bit entries.leaf_bits
    threads.threads_at_entry threads.with_current threads.blocked threads.given_way threads.yielded
    threads.never threads.waiter
    colours.frame_at colours.pool
    interrupts.next_cycle interrupts.due
    footprints.text_touches footprints.stack_touches footprints.data_touches footprints.shared_touches
    footprints.touches footprints.zeroed_touches footprints.entry_touches
    permissions.may_make permissions.calls_below
    domain.dom_at_entry domain.placed domain.replied domain.exited domain.waiting domain.delivered_on
    domain.signalled domain.signalled_by domain.with_bit
    calls.put_byte calls.call_of calls.call calls.work_of calls.zeroed_in calls.entries_in calls.empties
    calls.wait calls.line_at calls.filled calls.is_slot calls.some_or calls.waited calls.alloc
    calls.zero_out
    mail_calls.called_of mail_calls.called
    claims.least_free claims.free_frames claims.is_named claims.frames_in claims.all_claims claims.claim_of
    claims.frame_of
    levels.colour_of_line
    touches.fresh_core touches.cold touches.fetched touches.accessed touches.looked touches.flushed
    touches.on_core touches.missed_cost touches.below_by touches.below_if touches.below touches.below_all
    touches.pass_on touches.touched touches.and_then touches.touched_all
    operations.footprint operations.operation operations.enter operations.prefetch operations.shared_region
    operations.leave
    translation.lines_of translation.look_of
    tally.one_look tally.one_access tally.tally_access tally.tally_on_core tally.one_read tally.tally_by
    tally.tally_if tally.tally_below tally.tally_below_all tally.tally tally.tally_all tally.plus tally.none
    pages.has_region pages.regions_below pages.pages_below pages.has_page_in
    schedule.entries_on schedule.start schedule.harts_in
    opening.put_word opening.tabled opening.root_entry opening.rights_in opening.leaf_with
    opening.leaf_entry opening.root_placed opening.table_placed opening.tables_placed opening.page_words
    opening.pages_placed opening.segments_placed opening.placed opening.all_placed
    kernel.opening_dom kernel.estate kernel.layout kernel.first_slots kernel.first_cap kernel.fixed_claims
    kernel.first_regions kernel.kept_pages kernel.page_numbers
    instruction.retired_at instruction.read_out
    hierarchy.hierarchy hierarchy.region
    event.touch event.translate event.address_in event.line_in event.read event.loaded event.noted
    event.settle event.execute event.timed event.make_call event.perform event.instruction
    event.interrupts_of event.event event.frame_or_stop event.computed event.unless event.guessed
    event.store event.call_touches event.delivery_touches
    arrivals.turns
    machine.paid machine.happened machine.step machine.steps machine.guarded machine.enter_part
    machine.prefetch_by machine.flush_by machine.switch_work_by machine.with_hart machine.with_part
    machine.switch_on machine.alone_opening machine.alone_enter machine.alone_in machine.alone_mail
    machine.leave_by machine.opening_doms machine.alone_if machine.alone_out machine.delivered
    harts.proceeds harts.settles harts.begins harts.runs harts.goes_on harts.next_by harts.after_by
    harts.all_cold harts.harts_by
    events.happening events.counted events.observed events.events_in events.slot_from events.slots_mailed
    events.begun_slot events.observed_on events.with_next events.logged_from events.logged events.with_last
    ◌>>=◌ ◌>>◌
everything = 0

-- ---- the machine of both

abbrev costs : CostTable
costs =
    record { base = 1; l1 = 1; l2 = 8; mem = 40; wb = 10; tlb = 1; mispredict = 3; trap = 10; flush = 20 }

abbrev cache : ℕ → ℕ → CacheShape
cache sets ways = record { sets = sets; ways = ways; policy = Lru }

abbrev hardware : Hardware
hardware = record {
  frames = 64;
  shared = 512;
  line = 64;
  l1i = cache 16 2;
  l1d = cache 16 2;
  l2 = cache 256 4;
  back = false;
  tlb = cache 4 2;
  predictor = 16;
  history = 0;
  costs = costs;
  muldiv = None;
  targets = 0;
}

abbrev public : List Entry → ℕ → Public
public entries domains =
    record { version = 1; hardware = hardware; schedule = entries; domains = domains; mail = [] }

-- its program is page 16, which may be read and executed
abbrev segment : List ℕ → Segment
segment bytes = record { page = 16; pages = 1; rights = 5; bytes = bytes }

abbrev own : ℕ → List ℕ → Own
own d bytes =
    record no_own { number = d; colours = suc d ∷ []; entry = 65536; segments = segment bytes ∷ [] }

-- ---- what events count

-- the first of all: its page's two entries and its line come from memory
abbrev cold : Tally
cold = record none { fetches = in_memory; looks_walked = 1; reads_memory = 2 }

-- then both are there
abbrev there : Tally
there = record none { fetches = in_first; looks_kept = 1 }

-- a kernel call: the kernel's text comes from memory, its shared line is always there
abbrev called : Tally
called = record there {
  fetches = record { first = 1; second = 0; memory = 4 };
  loads = in_second;
  stores = record { first = 2; second = 0; memory = 2 };
  charged = 10;
}

-- a delivery is the same work, with no instruction before it
abbrev brought : Tally
brought = record none {
  fetches = record { first = 0; second = 0; memory = 4 };
  loads = in_second;
  stores = record { first = 2; second = 0; memory = 2 };
  charged = 10;
}

-- a call that takes the place of a dirty line
abbrev called_back : Tally
called_back = record called { backs_first = 1 }

abbrev run : ℕ → ℕ → ℕ → Tally → Observed
run clock pc cycles counts = record { at = clock; what = Ran 0 pc; cycles = cycles; counts = counts }

abbrev jump : ℕ → ℕ → ℕ → Observed
jump clock to cycles = record { at = clock; what = Jumped to; cycles = cycles; counts = none }

abbrev slot : ℕ → ℕ → List Observed → Slot
slot k clock events = record { number = k; begins = clock; events = events }

-- ---- two domains on one hart; the first reads the clock, puts a byte, reads the clock again and exits

abbrev entry : ℕ → Entry
entry d = record { domain = d; length = 10000; pad = 6150; hart = 0 }

abbrev pair : Public
pair = public (entry 0 ∷ entry 1 ∷ []) 2

abbrev putting : List ℕ
putting =
    243 ∷ 34 ∷ 0 ∷ 192 ∷ 19 ∷ 5 ∷ 16 ∷ 4 ∷ 147 ∷ 8 ∷ 16 ∷ 0 ∷ 115 ∷ 0 ∷ 0 ∷ 0
    ∷ 115 ∷ 35 ∷ 0 ∷ 192 ∷ 147 ∷ 8 ∷ 0 ∷ 0 ∷ 115 ∷ 0 ∷ 0 ∷ 0 ∷ []

abbrev puts : List Observed
puts =
    run 6150 65536 147 cold ∷ run 6297 65540 3 there ∷ run 6300 65544 3 there ∷ run 6303 65548 318 called
    ∷ run 6621 65552 3 there ∷ run 6624 65556 3 there ∷ run 6627 65560 328 called_back
    ∷ jump 6955 16150 9195 ∷ []

put_alone : slots_mailed pair (own 0 putting) 0 [] 1 ≡ slot 0 6150 puts ∷ []
unfolding everything
put_alone = refl

-- ---- two domains to whom moments come. The first waits for its line; the delivery of its moment passes its slot's end

abbrev short : ℕ → Entry
short d = record { domain = d; length = 1000; pad = 6150; hart = 0 }

abbrev moment : ℕ → ℕ → Moment
moment clock line = record { at = clock; line = line }

abbrev waiting : Own
waiting = record (own 0 (
    147 ∷ 8 ∷ 160 ∷ 0 ∷ 19 ∷ 5 ∷ 0 ∷ 0 ∷ 115 ∷ 0 ∷ 0 ∷ 0 ∷ 115 ∷ 32 ∷ 0 ∷ 192
    ∷ 147 ∷ 8 ∷ 160 ∷ 0 ∷ 19 ∷ 5 ∷ 0 ∷ 0 ∷ 115 ∷ 0 ∷ 0 ∷ 0 ∷ 111 ∷ 240 ∷ 95 ∷ 255 ∷ []
    )) {
      caps = Irq 3 ∷ [];
      lines = 3 ∷ [];
      moments = moment 7000 3 ∷ moment 20000 3 ∷ moment 40000 3 ∷ [];
    }

abbrev late : Own
late = record (own 1 (147 ∷ 8 ∷ 0 ∷ 0 ∷ 19 ∷ 5 ∷ 144 ∷ 0 ∷ 115 ∷ 0 ∷ 0 ∷ 0 ∷ [])) {
  caps = Irq 4 ∷ [];
  lines = 4 ∷ [];
  moments = moment 1000 4 ∷ moment 90000 4 ∷ [];
}

abbrev moments : Image
moments = record { all = public (short 0 ∷ short 1 ∷ []) 2; owns = waiting ∷ late ∷ [] }

-- a delivery as the first of the kernel's work
abbrev deliver : ℕ → ℕ → Observed
deliver clock line = record { at = clock; what = Delivered line; cycles = 315; counts = brought }

abbrev waits : List Slot
waits =
    slot 0 6150
    (run 6150 65536 147 cold ∷ run 6297 65540 3 there ∷ run 6300 65544 318 called ∷ jump 6618 7000 382
    ∷ deliver 7000 3 ∷ [])
    ∷ []

-- its first moment came in the other's slot
abbrev is_late : List Slot
is_late =
    slot 1 13300
    (deliver 13300 4 ∷ run 13615 65536 147 cold ∷ run 13762 65540 3 there ∷ run 13765 65544 328 called_back
    ∷ jump 14093 14300 207 ∷ [])
    ∷ []

waits_alone : slots_mailed moments.all waiting 0 [] 1 ≡ waits
unfolding everything
waits_alone = refl

late_alone : slots_mailed moments.all late 1 [] 2 ≡ is_late
unfolding everything
late_alone = refl

-- a switch and five events for each
waits_among : logged moments 0 (replicate 12 0) ≡ waits
unfolding everything
waits_among = refl

late_among : logged moments 1 (replicate 12 0) ≡ is_late
unfolding everything
late_among = refl

-- ---- a domain that takes a frame as its slot ends: the call, which zeroes it, is whole

abbrev taking : Own
taking = record (own 0 (
    147 ∷ 8 ∷ 32 ∷ 0 ∷ 19 ∷ 5 ∷ 16 ∷ 0 ∷ 147 ∷ 5 ∷ 0 ∷ 0 ∷ 115 ∷ 0 ∷ 0 ∷ 0
    ∷ 19 ∷ 5 ∷ 0 ∷ 0 ∷ 147 ∷ 8 ∷ 32 ∷ 0 ∷ 115 ∷ 0 ∷ 0 ∷ 0 ∷ 111 ∷ 240 ∷ 95 ∷ 255 ∷ []
    )) {
      caps = Irq 3 ∷ [];
      lines = 3 ∷ [];
      moments = moment 6150 3 ∷ moment 8000 3 ∷ moment 23050 3 ∷ moment 23149 3 ∷ moment 23150 3 ∷ [];
    }

abbrev zeroed : Tally
zeroed = record called {
  stores = record { first = 2; second = 0; memory = 66 };
  backs_first = 39;
}

takes_alone : slots_mailed moments.all taking 0 [] 1
    ≡ slot 0 6150
    (deliver 6150 3 ∷ run 6465 65536 147 cold ∷ run 6612 65540 3 there ∷ run 6615 65544 3 there
    ∷ run 6618 65548 3844 zeroed ∷ [])
    ∷ []
unfolding everything
takes_alone = refl

-- ---- three domains, each on a hart of its own; domain 1 reads the clock, and each exits

abbrev entry_on : ℕ → ℕ → Entry
entry_on d length = record { domain = d; length = length; pad = 6150; hart = d }

abbrev three : Public
three = public (entry_on 1 1000 ∷ entry_on 0 1000 ∷ entry_on 1 2000 ∷ entry_on 2 1500 ∷ []) 3

abbrev exiting : List ℕ
exiting = 147 ∷ 8 ∷ 0 ∷ 0 ∷ 19 ∷ 5 ∷ 0 ∷ 0 ∷ 115 ∷ 0 ∷ 0 ∷ 0 ∷ []

abbrev reading : List ℕ
reading = 115 ∷ 32 ∷ 0 ∷ 192 ∷ exiting

abbrev image : Image
image = record { all = three; owns = own 0 exiting ∷ own 1 reading ∷ own 2 exiting ∷ [] }

-- where it has ended, its clock goes to the slot's end
abbrev of_0 : List Slot
of_0 =
    slot 0 6150
    (run 6150 65536 147 cold ∷ run 6297 65540 3 there ∷ run 6300 65544 328 called_back ∷ jump 6628 7150 522 ∷ [])
    ∷ slot 1 13300 (jump 13300 14300 1000 ∷ [])
    ∷ []

abbrev of_1 : List Slot
of_1 =
    slot 0 6150
    (run 6150 65536 147 cold ∷ run 6297 65540 3 there ∷ run 6300 65544 3 there ∷ run 6303 65548 328 called_back
    ∷ jump 6631 7150 519 ∷ [])
    ∷ slot 1 13300 (jump 13300 15300 2000 ∷ [])
    ∷ slot 2 21450 (jump 21450 22450 1000 ∷ [])
    ∷ []

alone_0 : slots_mailed (public_on three 0) (own 0 exiting) 0 [] 2 ≡ of_0
unfolding everything
alone_0 = refl

alone_1 : slots_mailed (public_on three 1) (own 1 reading) 1 [] 3 ≡ of_1
unfolding everything
alone_1 = refl

-- so many events of each, in turn
abbrev turns : ℕ → List ℕ
turns zero = []
turns (suc n) = 0 ∷ 1 ∷ 2 ∷ turns n

-- two switches of hart 0, and five events in its slots
in_turn_0 : logged image 0 (turns 7) ≡ of_0
unfolding everything
in_turn_0 = refl

-- three switches of hart 1, and seven events in its slots
in_turn_1 : logged image 1 (turns 10) ≡ of_1
unfolding everything
in_turn_1 = refl

-- hart after hart
one_by_one : logged image 1 (replicate 7 2 ++ (replicate 10 1 ++ replicate 7 0)) ≡ of_1
unfolding everything
one_by_one = refl
