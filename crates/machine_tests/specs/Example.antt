-- Worked runs, computed from the definitions alone. In the first each domain prints a byte and exits; in the second it reads the clock before and after it prints.
use Rattle.std.specs.Prelude.{◌≡◌, ℕ, true, false, Some, None, Ok, Err, List, [], ◌∷◌, codes, refl, slice_set, replicate, length, ◌+◌, ◌*◌}
use Rattle.tp_base.specs.Table.{empty, at, put}
use Rattle.tp_base.specs.Act.{go_on, ◌>>=◌, ◌>>◌, give, stop, note, check, either}
use Rattle.phys_mem.specs.Mem.{frame_at, word, written}
use Rattle.sv32_walk.specs.declared.access.Access.TheVariants as access
use Rattle.sv32_walk.specs.declared.access.WalkFault.TheVariants as fault
use Rattle.sv32_walk.specs.PageTableEntry.{bit, ppn, ppn_0, ppn_1, with_ppn, vpn_0, vpn_1}
use Rattle.sv32_walk.specs.Walk.{leaf, superpage, first_level, last_level, entry_address, from_table, from_entry, walk}
use Rattle.sv32_walk.specs.PageTableEntry.{table_word, leaf_word, leaf_bits}
use Rattle.rv_core.specs.Registers.{zeros}
use Rattle.thread_set.specs.declared.Thread.{Thread}
use Rattle.thread_set.specs.declared.ThreadState.TheVariants.{Ended}
use Rattle.thread_set.specs.Threads as threads
use Rattle.thread_set.specs.Threads.{never, turned_to, yielded, given_way, with_current, all_ended}
use Rattle.cap_table.specs.Slots as slots
use Rattle.irq_partition.specs.Interrupts as interrupts
use Rattle.kernel_clone.specs.Permissions.{may_make, every_call, without_mail, calls_below}
use Rattle.kernel_clone.specs.Footprints.{text_touches, stack_touches, data_touches, shared_touches, zeroed_touches, entry_touches, touches}
use Rattle.call_table.specs.declared.DomainStatus.TheVariants.{Exited}
use Rattle.call_table.specs.Domain as domain
use Rattle.call_table.specs.Domain.{is_running}
use Rattle.irq_partition.specs.Interrupts.{next_of}
use Rattle.call_table.specs.Claims.{frame_of, is_shared, leaf_at, entry_places, region_of, claim_of, all_claims, claims, frames_in, is_named, free_frames, least_free}
use Rattle.call_table.specs.Calls as calls
use Rattle.call_table.specs.Mail.{called, called_of}
use Rattle.mail_slots.specs.Boxes as boxes
use Rattle.mail_slots.specs.Sides.{arrival, bring}
use Rattle.world_view.specs.Mail.{turns}
use Rattle.kernel_call.specs.Logs.{log_of}
use Rattle.frame_colours.specs.Colours as colours
use Rattle.hardware_check.specs.declared.hardware.Policy.TheVariants.{Lru}
use Rattle.guards.specs.declared.Guard.{Guard}
use Rattle.guards.specs.declared.Guard.TheVariants as guard
use Rattle.hardware_check.specs.Hardware.{Hardware}
use Rattle.domain_check.specs.declared.capabilities.InitialCap.TheVariants.{Irq}
use Rattle.image_check.specs.Own.{Segment}
use Rattle.image_check.specs.Image.{Image, own_of}
use Rattle.image_check.specs.Pages.{has_region, regions_below, pages_below, pages_in}
use Rattle.sched_table.specs.Schedule.{start, entry_of_slot, slot_end}
use Rattle.world_view.specs.Opening.{frame_words, put_word, tabled, root_entry, rights_in, leaf_with, leaf_entry, root_placed, table_placed, tables_placed, page_words, pages_placed, segments_placed, placed, all_placed}
use Rattle.rv_decode.specs.declared.Counter.TheVariants.{Cycle, Time, Instret, CycleHigh, TimeHigh, InstretHigh}
use Rattle.world_view.specs.Kernel.{first_cap, first_slots, opening_dom, page_numbers, kept_pages, first_regions, fixed_claims, estate, layout, no_dom}
use Rattle.world_view.specs.Instruction.{counter_value, stopped, trapped, retired_at, read_out}
use Rattle.mem_system.specs.Hierarchy.{Hierarchy, colour_of_line}
use Rattle.mem_system.specs.Cost as cost
use Rattle.mem_system.specs.Cost.{Touch, Load, Store, WalkRead, Flush, Caches, cold, touched}
use Rattle.mem_system.specs.Translation.{lines_of, look_of}
use Rattle.mem_system.specs.Operations.{footprint, operation, leave, enter, shared_region, prefetch}
use Rattle.world_view.specs.Cost.{hierarchy, region}
use Rattle.world_view.specs.Event.{touch, frame_or_stop, translate, address_in, line_in, read, write, unless, load, store, computed, loaded, noted, guessed, settle, execute, timed, call_touches, make_call, perform, instruction, delivery_touches, interrupts_of, event}
use Rattle.world_view.specs.Machine.{Local, setting, switch, clock_of, with_hart, paid, delivered, happened, step, steps, enter_part, with_part, opening_doms, opening, whole, alone_opening, alone_enter, alone_in, alone_out, alone_if, alone_mail, flush_by, guarded, leave_by, own_slot, prefetch_by, run_slot_by, switch_by, switch_on, switch_work_by, whole_by, with_end, dom_of, part_of, whole_off, World, Guards, setting_by, Owned, if_due, first_of, first_due, step_among, steps_among}
use Rattle.world_view.specs.View.{View, view, view_whole, view_mailed, view_alone, memory_sum}
use Rattle.world_view.specs.Used.{count_of, largest_of}

-- addi x10, x0, byte; addi x17, x0, 1; ecall; addi x17, x0, 0; ecall
abbrev pub print : ℕ → List ℕ
print byte =
    0x13 ∷ 0x05 ∷ byte ∷ 0x04
    ∷ 0x93 ∷ 0x08 ∷ 0x10 ∷ 0
    ∷ 0x73 ∷ 0 ∷ 0 ∷ 0
    ∷ 0x93 ∷ 0x08 ∷ 0 ∷ 0
    ∷ 0x73 ∷ 0 ∷ 0 ∷ 0 ∷ []

-- rdcycle x5; addi x10, x0, byte; addi x17, x0, 1; ecall; rdcycle x6; addi x17, x0, 0; ecall
abbrev pub timed_print : ℕ → List ℕ
timed_print byte =
    0xf3 ∷ 0x22 ∷ 0 ∷ 0xc0
    ∷ 0x13 ∷ 0x05 ∷ byte ∷ 0x04
    ∷ 0x93 ∷ 0x08 ∷ 0x10 ∷ 0
    ∷ 0x73 ∷ 0 ∷ 0 ∷ 0
    ∷ 0x73 ∷ 0x23 ∷ 0 ∷ 0xc0
    ∷ 0x93 ∷ 0x08 ∷ 0 ∷ 0
    ∷ 0x73 ∷ 0 ∷ 0 ∷ 0 ∷ []

-- a page of code, to be read and executed
abbrev pub code_at_16 : List ℕ → Segment
code_at_16 code = record { page = 16; pages = 1; rights = 5; bytes = code }

-- 64 frames of 4 colours
abbrev pub small_machine : Hardware
small_machine = record {
  frames = 64;
  shared = 512;
  line = 64;
  l1i = record { sets = 16; ways = 2; policy = Lru };
  l1d = record { sets = 16; ways = 2; policy = Lru };
  l2 = record { sets = 256; ways = 4; policy = Lru };
  back = false;
  tlb = record { sets = 4; ways = 2; policy = Lru };
  predictor = 16;
  history = 0;
  muldiv = None;
  targets = 0;
  costs =
      record { base = 1; l1 = 1; l2 = 8; mem = 40; wb = 10; tlb = 1; mispredict = 3; trap = 10; flush = 20 };
}

-- red and blue, in slots of 10,000 cycles in turn
unfoldable pub two_domains : List ℕ → List ℕ → Image
two_domains red blue = record {
  all = record {
    version = 1;
    hardware = small_machine;
    schedule =
        record { domain = 0; length = 10000; pad = 6150; hart = 0 }
        ∷ record { domain = 1; length = 10000; pad = 6150; hart = 0 } ∷ [];
    domains = 2;
    mail = [];
  };
  owns =
      record {
        number = 0;
        name = codes "red";
        colours = 1 ∷ [];
        entry = 65536;
        segments = code_at_16 red ∷ [];
        caps = [];
        lines = [];
        moments = [];
        calls = every_call;
        makes = without_mail every_call;
      }
      ∷ record {
        number = 1;
        name = codes "blue";
        colours = 2 ∷ [];
        entry = 65536;
        segments = code_at_16 blue ∷ [];
        caps = [];
        lines = [];
        moments = [];
        calls = every_call;
        makes = without_mail every_call;
      } ∷ [];
}

-- one that prints A beside one that prints B
abbrev pub prints : Image
prints = two_domains (print 0x10) (print 0x20)

abbrev pub timed_prints : Image
timed_prints = two_domains (timed_print 0x10) (timed_print 0x20)

-- thread 0 is ended there, and no other was ever started
abbrev pub ended_alone : ℕ → List ℕ → List Thread
ended_alone pc regs = record { state = Ended; pc = pc; regs = regs } ∷ replicate 7 never

-- what is seen of a domain that printed a byte, but for its memory
abbrev pub printed_byte : ℕ → View
printed_byte byte = record {
  status = Exited 0;
  retired = 3;
  threads = ended_alone 0x10010 zeros;
  readings = log_of [];
  replies = log_of (record { code = 0; value = 0 } ∷ []);
  printed = byte ∷ [];
  pool = [];
  frames = [];
}

-- what is seen of one that read the clock, too, by the byte and the clock at its first instruction
abbrev pub printed_in_time : ℕ → ℕ → View
printed_in_time byte clock = record {
  status = Exited 0;
  retired = 5;
  threads = ended_alone 0x10018 (slice_set (slice_set zeros 5 clock) 6 (clock + 471));
  readings = log_of (clock ∷ (clock + 471) ∷ []);
  replies = log_of (record { code = 0; value = 0 } ∷ []);
  printed = byte ∷ [];
  pool = [];
  frames = [];
}

-- addi x10, x0, 1; addi x17, x0, 10; ecall; rdcycle x5; addi x17, x0, 9; ecall; addi x17, x0, 0; ecall
abbrev pub wait_and_poll : List ℕ
wait_and_poll =
    0x13 ∷ 0x05 ∷ 0x10 ∷ 0
    ∷ 0x93 ∷ 0x08 ∷ 0xa0 ∷ 0
    ∷ 0x73 ∷ 0 ∷ 0 ∷ 0
    ∷ 0xf3 ∷ 0x22 ∷ 0 ∷ 0xc0
    ∷ 0x93 ∷ 0x08 ∷ 0x90 ∷ 0
    ∷ 0x73 ∷ 0 ∷ 0 ∷ 0
    ∷ 0x93 ∷ 0x08 ∷ 0 ∷ 0
    ∷ 0x73 ∷ 0 ∷ 0 ∷ 0 ∷ []

-- the first, with lines 3 and 5 in its slots 0 and 1, and a moment of each at cycle 9,000
unfoldable pub interrupted : Image
interrupted =
    let i = two_domains wait_and_poll (timed_print 0x20) in
    record i {
      owns =
          record (own_of i 0) {
            caps = Irq 3 ∷ Irq 5 ∷ [];
            lines = 3 ∷ 5 ∷ [];
            moments = record { at = 9000; line = 3 } ∷ record { at = 9000; line = 5 } ∷ [];
          }
          ∷ own_of i 1 ∷ [];
    }

-- the same with one moment of line 3
unfoldable pub beside_moment : ℕ → Image
beside_moment cycle =
    let i = interrupted in
    record i {
      owns = record (own_of i 0) { moments = record { at = cycle; line = 3 } ∷ [] } ∷ own_of i 1 ∷ [];
    }

-- what is seen of a domain that waited for line 5 and then polled line 3, by the clock at its next instruction
abbrev pub waited_and_polled : ℕ → View
waited_and_polled clock = record {
  status = Exited 0;
  retired = 5;
  threads = ended_alone 0x1001c (slice_set (slice_set zeros 5 clock) 11 1);
  readings = log_of (clock ∷ []);
  replies = log_of (record { code = 0; value = 1 } ∷ record { code = 0; value = 1 } ∷ []);
  printed = [];
  pool = [];
  frames = [];
}

-- all that a run computes with
unfoldable pub everything : ℕ
unfolding interrupts.next_cycle interrupts.due threads.waiter threads.woken threads.blocked threads.finished
    threads.vacant threads.spawned threads.with_thread domain.recorded domain.with_bit domain.signalled_by
    domain.signalled domain.delivered_on domain.turned domain.waiting domain.thread_ended domain.with_spawned
    calls.line_at calls.poll calls.waited calls.wait calls.signal calls.spawn empty at put go_on ◌>>=◌ ◌>>◌
    give stop note either start frame_at word written frame_words put_word tabled root_entry rights_in
    leaf_with leaf_entry root_placed table_placed tables_placed page_words pages_placed segments_placed placed
    all_placed has_region regions_below pages_below pages_in table_word leaf_word leaf_bits bit ppn ppn_0
    ppn_1 with_ppn vpn_0 vpn_1 leaf superpage first_level last_level entry_address from_table from_entry walk
    first_cap first_slots opening_dom page_numbers kept_pages first_regions fixed_claims estate layout no_dom
    threads.threads_at_entry never turned_to yielded given_way with_current all_ended domain.dom_at_entry
    domain.placed domain.replied domain.exited domain.with_caps calls.zeroed_in calls.entries_in calls.work_of
    calls.zero_out calls.page_refusal calls.table_refusal calls.map_at calls.unmap_at calls.install_at
    calls.uninstall_at calls.empty_buffer calls.some_or calls.is_slot calls.filled calls.allowed
    calls.put_byte calls.alloc calls.install calls.map_page calls.unmap calls.unless_refused calls.copy
    calls.clear_entry calls.drop_slot calls.delete calls.unmap_all calls.revoke calls.call_of calls.call
    slots.maps_in slots.in_use slots.count_in frame_of is_shared leaf_at entry_places region_of claim_of
    all_claims claims frames_in is_named free_frames least_free text_touches stack_touches data_touches
    shared_touches zeroed_touches entry_touches touches check stopped trapped retired_at read_out
    colour_of_line cost.fresh_core cost.cold cost.fetched cost.accessed cost.looked cost.guessed cost.branched
    cost.jumped cost.flushed cost.on_core cost.missed_cost cost.below_by cost.below_if cost.below
    cost.below_all cost.pass_on cost.touched cost.and_then cost.touched_all lines_of look_of footprint
    operation leave enter shared_region prefetch hierarchy region touch frame_or_stop translate address_in
    line_in read write unless load store computed loaded noted guessed settle execute timed calls.empties
    call_touches make_call perform instruction delivery_touches interrupts_of event paid delivered happened
    step steps leave_by guarded prefetch_by flush_by enter_part switch_work_by with_part switch_by switch_on
    run_slot_by own_slot with_end opening_doms opening whole_by alone_opening alone_enter alone_in alone_out
    alone_if alone_mail log_of colours.pool colours.frame_at view view_whole view_mailed memory_sum count_of
    called called_of boxes.opening boxes.ends boxes.begins arrival bring turns
    largest_of two_domains interrupted with_hart beside_moment first_due step_among steps_among may_make
    calls_below
everything = 0

-- ---- the memory that it opens with

-- blue's root points to the table in the next frame, whose entry for page 16 is a leaf to read and to execute
pub blue_table : word (whole prints 0).storage.mem 18 0 ≡ 22 * 1024 + 0x01
unfolding everything
blue_table = refl

pub blue_leaf : word (whole prints 0).storage.mem 22 16 ≡ 26 * 1024 + 0x5b
unfolding everything
blue_leaf = refl

pub blue_code : word (whole prints 0).storage.mem 26 0 ≡ 0x04200513
unfolding everything
blue_code = refl

-- so it fetches from its page and loads, and doesn't store
pub blue_fetches : (walk (whole prints 0).storage.mem 64 18 0x10004 access.Fetch).result
    ≡ Ok (26 * 1024 + 0x5b)
unfolding everything
blue_fetches = refl

pub blue_stores : (walk (whole prints 0).storage.mem 64 18 0x10004 access.Store).result ≡ Err fault.Page
unfolding everything
blue_stores = refl

-- and there is no page 17
pub blue_past : (walk (whole prints 0).storage.mem 64 18 0x11000 access.Load).result ≡ Err fault.Page
unfolding everything
blue_past = refl

-- ---- the first run, of four slots

pub red : record (view_whole prints 0 4) { pool = []; frames = [] } ≡ printed_byte 0x41
unfolding everything
red = refl

pub red_memory : memory_sum (view_whole prints 0 4).frames ≡ 0x0420cf7b
unfolding everything
red_memory = refl

pub blue : record (view_whole prints 1 4) { pool = []; frames = [] } ≡ printed_byte 0x42
unfolding everything
blue = refl

pub blue_memory : memory_sum (view_whole prints 1 4).frames ≡ 0x0430d77b
unfolding everything
blue_memory = refl

pub blue_alone : view_whole prints 1 4 ≡ view_alone prints.all (own_of prints 1) 1 4
unfolding everything
blue_alone = refl

-- ---- the second

pub timed_red : record (view_whole timed_prints 0 4) { pool = []; frames = [] } ≡ printed_in_time 0x41 6150
unfolding everything
timed_red = refl

pub timed_red_memory : memory_sum (view_whole timed_prints 0 4).frames ≡ 0x842115e1
unfolding everything
timed_red_memory = refl

pub timed_blue : record (view_whole timed_prints 1 4) { pool = []; frames = [] } ≡ printed_in_time 0x42 22300
unfolding everything
timed_blue = refl

pub timed_red_alone : view_whole timed_prints 0 4 ≡ view_alone timed_prints.all (own_of timed_prints 0) 0 4
unfolding everything
timed_red_alone = refl

pub first_switch : (count_of 0 (whole timed_prints 4).used ≡ 2)
    × (largest_of 0 (whole timed_prints 4).used ≡ 820)
unfolding everything
first_switch = (refl, refl)

-- what each switch used, with its entry: the boot's is the last one
pub switches : (whole timed_prints 4).used ≡ (1, 755) ∷ (0, 820) ∷ (1, 580) ∷ (0, 292) ∷ []
unfolding everything
switches = refl

-- the domain of slot k, after so many of its steps
abbrev local_in : Image → ℕ → ℕ → Local
local_in i k n =
    let d = (entry_of_slot i.all.schedule k).domain in
    steps (setting i.all.hardware (own_of i d) false) (slot_end i.all.schedule k) n (part_of 0 d (switch i k (whole i k)))

-- the first instruction costs 147: its base, a look-up with two reads that miss, and a fetch that misses both levels
pub first_instruction : (local_in timed_prints 0 1).clock ≡ 6150 + 147
unfolding everything
first_instruction = refl

-- red's whole first slot, up to its end
pub first_slot : clock_of 0 (whole timed_prints 1) ≡ 6150 + 10000
unfolding everything
first_slot = refl

-- four slots of 10,000 cycles, each after a pad of 6,150
pub clock : clock_of 0 (whole timed_prints 4) ≡ 64600
unfolding everything
clock = refl

-- ---- interrupts

-- no thread is ready, so the clock goes to 9,000; line 3 is delivered in 315 cycles, and line 5, which wakes the thread, in 19
pub interrupted_red : record (view_whole interrupted 0 1) { pool = []; frames = [] }
    ≡ waited_and_polled (9000 + 315 + 19)
unfolding everything
interrupted_red = refl

-- ---- counters past 32 bits

-- 3 * 2^32 + 5, in its halves
abbrev pub late : ℕ
late = 12884901893

pub clock_low : counter_value Cycle late no_dom ≡ 5
clock_low = refl

pub clock_high : counter_value CycleHigh late no_dom ≡ 3
clock_high = refl

pub time_low : counter_value Time late no_dom ≡ 5
time_low = refl

pub time_high : counter_value TimeHigh late no_dom ≡ 3
time_high = refl

pub retired_low : counter_value Instret 0 (record no_dom { retired = late }) ≡ 5
retired_low = refl

pub retired_high : counter_value InstretHigh 0 (record no_dom { retired = late }) ≡ 3
retired_high = refl

-- ---- one guard off: what blue reads of the clock

abbrev pub blue_reads : Guard → Image → List ℕ
blue_reads off i = (dom_of (whole_off off i 2) 1).readings

pub unflushed : blue_reads guard.Flush timed_prints ≡ 22300 ∷ 22773 ∷ []
unfolding everything
unflushed = refl

pub unprefetched : blue_reads guard.Prefetch timed_prints ≡ 22300 ∷ 22771 ∷ []
unfolding everything
unprefetched = refl

-- Red and blue on a machine of lines of 128 bytes, one to a set: without colours there are 32 sets, and red's call
-- finds a line gone that it would find with 64.
abbrev pub wide_machine : Hardware
wide_machine = record small_machine { line = 128; l2 = record { sets = 128; ways = 1; policy = Lru } }

abbrev pub on_wide_lines : Image
on_wide_lines = record timed_prints { all = record timed_prints.all { hardware = wide_machine } }

pub uncoloured_reads : (dom_of (whole_off guard.Colour on_wide_lines 1) 0).readings ≡ 6150 ∷ 6421 ∷ []
unfolding everything
uncoloured_reads = refl

pub coloured_reads : (dom_of (whole on_wide_lines 1) 0).readings ≡ 6150 ∷ 6381 ∷ []
unfolding everything
coloured_reads = refl

-- its slot begins where the work of the switch ended
pub unpadded : blue_reads guard.Pad timed_prints ≡ 11575 ∷ 12046 ∷ []
unfolding everything
unpadded = refl

-- red's kernel calls left in the caches the lines of the clone that blue's use, too
pub uncloned : blue_reads guard.Clone timed_prints ≡ 22300 ∷ 22531 ∷ []
unfolding everything
uncloned = refl

-- with a moment of red's between them
pub shared_moments : blue_reads guard.Irq (beside_moment 22400) ≡ 22300 ∷ 23086 ∷ []
unfolding everything
shared_moments = refl

pub own_moments : (dom_of (whole (beside_moment 22400) 2) 1).readings ≡ 22300 ∷ 22771 ∷ []
unfolding everything
own_moments = refl

-- of all moments that are due the earliest comes first, and of one cycle that of the least line, whoever owns it
abbrev pub owned : ℕ → ℕ → ℕ → Owned
owned owner cycle line = record { owner = owner; moment = record { at = cycle; line = line } }

pub earliest : first_of (Some (owned 0 20 1)) (Some (owned 1 10 5)) ≡ Some (owned 1 10 5)
earliest = refl

pub earliest_before : first_of (Some (owned 0 10 5)) (Some (owned 1 20 1)) ≡ Some (owned 0 10 5)
earliest_before = refl

pub least_line : first_of (Some (owned 0 10 5)) (Some (owned 1 10 1)) ≡ Some (owned 1 10 1)
least_line = refl

pub least_line_before : first_of (Some (owned 0 10 1)) (Some (owned 1 10 5)) ≡ Some (owned 0 10 1)
least_line_before = refl

-- a domain's moment is due whatever became of it
pub owner_may_have_ended : (i : Image) (w : World)
    → first_due i 0 w 1 ≡ if_due (clock_of 0 w) 0 (next_of (interrupts_of (own_of i 0) (dom_of w 0)))
unfolding first_due
owner_may_have_ended i w = refl

-- in the slot of one that has ended none comes
pub none_where_nobody_runs : (g : Guards) (i : Image) (d end : ℕ) (w : World)
    → is_running (dom_of w d).status ≡ false
    → step_among g i 0 d end w ≡ with_part 0 d w (step (setting_by g i d) end (part_of 0 d w))
unfolding step_among
none_where_nobody_runs g i d end w ended = rw ended refl

-- while one runs that is idle, another's moment comes, too, and is charged by the clone of the one that runs
pub comes_to_its_owner : (g : Guards) (i : Image) (d end : ℕ) (w : World) (x : Owned)
    → is_running (dom_of w d).status ≡ true
    → first_due i 0 w i.all.domains ≡ Some x
    → step_among g i 0 d end w
    ≡ with_part 0 x.owner w (delivered (setting_by g i d) x.moment.line (part_of 0 x.owner w))
unfolding step_among
comes_to_its_owner g i d end w x runs due = rw (runs, due) refl

-- jal x0, 0
abbrev pub idle_loop : List ℕ
idle_loop = 0x6f ∷ 0 ∷ 0 ∷ 0 ∷ []

pub unflushed_beside_a_loop : blue_reads guard.Flush (two_domains idle_loop (timed_print 0x20))
    ≡ 22300 ∷ 22763 ∷ []
unfolding everything
unflushed_beside_a_loop = refl

-- ---- dirty lines that are written back into the second level

abbrev pub writing_back : Hardware
writing_back = record small_machine { back = true }

-- what touches cost, one after the other
abbrev pub costs_in_order : Hierarchy → Caches → List Touch → List ℕ
costs_in_order h c [] = []
costs_in_order h c (t ∷ ts) = (touched h false c t).cost ∷ costs_in_order h (touched h false c t).caches ts

abbrev pub from_cold : Hardware → List Touch → List ℕ
from_cold p ts = costs_in_order (hierarchy p) (cold (hierarchy p)) ts

-- line 132 takes the place of line 100 in the first level, which is marked in the second, where line 1124 takes its place
abbrev pub evicting : List Touch
evicting = Store 100 ∷ Store 116 ∷ Load 132 ∷ WalkRead 356 ∷ WalkRead 612 ∷ WalkRead 868 ∷ WalkRead 1124 ∷ []

pub evicts_marked : from_cold writing_back evicting ≡ 49 ∷ 49 ∷ 59 ∷ 48 ∷ 48 ∷ 48 ∷ 58 ∷ []
unfolding everything
evicts_marked = refl

-- without it none has a mark there
pub evicts_unmarked : from_cold small_machine evicting ≡ 49 ∷ 49 ∷ 59 ∷ 48 ∷ 48 ∷ 48 ∷ 48 ∷ []
unfolding everything
evicts_unmarked = refl

-- the first level's victim is written back before the second level is touched for the new line, which then gives it up;
-- a mark doesn't move it
pub victim_first : from_cold writing_back
    (Store 100 ∷ WalkRead 356 ∷ WalkRead 612 ∷ WalkRead 868 ∷ Load 116 ∷ Load 1124 ∷ [])
    ≡ 49 ∷ 48 ∷ 48 ∷ 48 ∷ 49 ∷ 69 ∷ []
unfolding everything
victim_first = refl

-- a flush writes back, too; a line that the second level has lost passes through
pub flush_marks : from_cold writing_back
    (Store 100 ∷ Flush ∷ WalkRead 356 ∷ WalkRead 612 ∷ WalkRead 868 ∷ WalkRead 1124 ∷ [])
    ≡ 49 ∷ 30 ∷ 48 ∷ 48 ∷ 48 ∷ 58 ∷ []
unfolding everything
flush_marks = refl

pub passes_through : from_cold writing_back
    (Store 100 ∷ WalkRead 356 ∷ WalkRead 612 ∷ WalkRead 868 ∷ WalkRead 1124 ∷ Flush ∷ WalkRead 100
    ∷ WalkRead 356 ∷ [])
    ≡ 49 ∷ 48 ∷ 48 ∷ 48 ∷ 48 ∷ 30 ∷ 48 ∷ 48 ∷ []
unfolding everything
passes_through = refl
