-- Worked bounds, computed from the definitions.
use Rattle.std.specs.Prelude.{◌≡◌, ◌+◌, ◌^◌, refl}
use Rattle.kernel_clone.specs.Permissions.{may_make, every_call, calls_below}
use Rattle.pad_bound.specs.Bound.{MachineShape, most_written, with_calls, worst_instruction, worst_operation, worst_leave, worst_prefetch, worst_flush, worst_enter, bound_of}

-- 8 shared lines, 64 lines in a frame, 32 lines in the cache
abbrev pub small : MachineShape
small = record {
  costs =
      record { base = 1; l1 = 1; l2 = 8; mem = 40; wb = 10; tlb = 1; mispredict = 3; trap = 10; flush = 20 };
  line = 64;
  shared = 512;
  sets = 16;
  ways = 2;
  written = most_written every_call 64;
  again = 0;
  product = 0;
}

pub instruction : worst_instruction small ≡ 306
unfolding worst_instruction
instruction = refl

pub operation : worst_operation small ≡ 4277
unfolding worst_operation most_written may_make calls_below
operation = refl

pub leave : worst_leave small ≡ 383
unfolding worst_leave
leave = refl

pub prefetch : worst_prefetch small ≡ 472
unfolding worst_prefetch
prefetch = refl

pub flush : worst_flush small ≡ 340
unfolding worst_flush
flush = refl

pub enter : worst_enter small ≡ 373
unfolding worst_enter
enter = refl

pub total : bound_of small ≡ 6150
unfolding bound_of worst_instruction worst_operation worst_leave worst_prefetch worst_flush worst_enter
    most_written may_make calls_below
total = refl

-- ---- where the domain that leaves may make some calls alone

few : worst_operation (with_calls small (2 ^ 0 + 2 ^ 1)) ≡ 501
unfolding worst_operation most_written may_make
few = refl

few_total : bound_of (with_calls small (2 ^ 0 + 2 ^ 1)) ≡ 2374
unfolding bound_of worst_instruction worst_operation worst_leave worst_prefetch worst_flush worst_enter
    most_written may_make
few_total = refl

tables : worst_operation (with_calls small (2 ^ 3)) ≡ 560
unfolding worst_operation most_written may_make
tables = refl

revokes : worst_operation (with_calls small (2 ^ 8)) ≡ 4218
unfolding worst_operation most_written may_make
revokes = refl

allocs : worst_operation (with_calls small (2 ^ 2)) ≡ 4277
unfolding worst_operation most_written may_make
allocs = refl

-- COPY and the calls on lines and threads write nothing
others : worst_operation (with_calls small (2 ^ 6 + 2 ^ 9 + 2 ^ 10 + 2 ^ 11 + 2 ^ 12 + 2 ^ 13 + 2 ^ 14)) ≡ 501
unfolding worst_operation most_written may_make
others = refl

-- ---- where lines are written back into the second level, so that a miss of it may write one back again

abbrev pub written_back : MachineShape
written_back = record small { again = small.costs.wb }

pub back_instruction : worst_instruction written_back ≡ 366
unfolding worst_instruction
back_instruction = refl

pub back_operation : worst_operation written_back ≡ 5007
unfolding worst_operation most_written may_make calls_below
back_operation = refl

pub back_leave : worst_leave written_back ≡ 453
unfolding worst_leave
back_leave = refl

pub back_prefetch : worst_prefetch written_back ≡ 472
unfolding worst_prefetch
back_prefetch = refl

pub back_flush : worst_flush written_back ≡ 340
unfolding worst_flush
back_flush = refl

pub back_enter : worst_enter written_back ≡ 443
unfolding worst_enter
back_enter = refl

pub back_total : bound_of written_back ≡ 7080
unfolding bound_of worst_instruction worst_operation worst_leave worst_prefetch worst_flush worst_enter
    most_written may_make calls_below
back_total = refl

-- where a second-level miss writes back again, and a division may take 2 cycles a digit and one more
abbrev pub larger : MachineShape
larger = record {
  costs = small.costs;
  line = 64;
  shared = 512;
  sets = 16;
  ways = 2;
  written = 64;
  again = 10;
  product = 66;
}

pub larger_instruction : worst_instruction larger ≡ 366 + 66
unfolding worst_instruction
larger_instruction = refl

pub larger_operation : worst_operation larger ≡ 5007
unfolding worst_operation
larger_operation = refl

pub larger_leave : worst_leave larger ≡ 453
unfolding worst_leave
larger_leave = refl

pub larger_total : bound_of larger ≡ 7080 + 66
unfolding bound_of worst_instruction worst_operation worst_leave worst_prefetch worst_flush worst_enter
larger_total = refl
