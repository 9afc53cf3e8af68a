-- A page table entry: its fields, what it permits, and the words that the kernel writes. The privileged
-- specification's section on Sv32, "Addressing and Memory Protection". Bits 0 to 7 are V, R, W, X, U, G, A, D; bits 8
-- and 9 are software's; PPN[0] is bits 10 to 19 and PPN[1] is bits 20 to 31.
use Rattle.std.specs.Prelude.{ℕ, ◌+◌, ◌*◌, ◌/◌, ◌%◌, ◌^◌, Bool, not, ◌&&◌, ◌||◌, nat_eq}
use Rattle.sv32_walk.specs.declared.access.Access.{Access}
use Rattle.sv32_walk.specs.declared.access.Access.TheVariants.{Fetch, Load, Store}

-- ---- its fields

unfoldable pub bit : ℕ → ℕ → Bool
bit entry place = nat_eq (entry / 2 ^ place % 2) 1

abbrev pub valid : ℕ → Bool
valid entry = bit entry 0

abbrev pub readable : ℕ → Bool
readable entry = bit entry 1

abbrev pub writable : ℕ → Bool
writable entry = bit entry 2

abbrev pub executable : ℕ → Bool
executable entry = bit entry 3

abbrev pub user : ℕ → Bool
user entry = bit entry 4

abbrev pub accessed : ℕ → Bool
accessed entry = bit entry 6

abbrev pub dirty : ℕ → Bool
dirty entry = bit entry 7

-- the number of the frame that an entry names, PPN[1] and PPN[0]
unfoldable pub ppn : ℕ → ℕ
ppn entry = entry / 2 ^ 10

unfoldable pub ppn_0 : ℕ → ℕ
ppn_0 entry = entry / 2 ^ 10 % 2 ^ 10

unfoldable pub ppn_1 : ℕ → ℕ
ppn_1 entry = entry / 2 ^ 20

-- the entry with another frame in bits 10 to 31
unfoldable pub with_ppn : ℕ → ℕ → ℕ
with_ppn entry frame = frame * 2 ^ 10 + entry % 2 ^ 10

-- ---- its tests

-- not valid, or writable and not readable, which is reserved
abbrev pub is_reserved : ℕ → Bool
is_reserved entry = not (valid entry) || (not (readable entry) && writable entry)

abbrev pub is_leaf : ℕ → Bool
is_leaf entry = readable entry || executable entry

-- a pointer to a table has A, D and U clear: they are reserved there
abbrev pub is_pointer : ℕ → Bool
is_pointer entry = not (accessed entry || (dirty entry || user entry))

-- the bit of the access's right is set
abbrev pub has_right : Access → ℕ → Bool
has_right Fetch entry = executable entry
has_right Load entry = readable entry
has_right Store entry = writable entry

-- the page is marked as accessed, and as dirty for a store
abbrev pub is_marked : Access → ℕ → Bool
is_marked Fetch entry = accessed entry
is_marked Load entry = accessed entry
is_marked Store entry = accessed entry && dirty entry

-- a leaf permits an access from user mode
abbrev pub permits : Access → ℕ → Bool
permits access entry = user entry && (has_right access entry && is_marked access entry)

-- ---- the words that the kernel writes; rights are a number: 1 to read, 2 to write, 4 to execute

-- the rights permit an access
unfoldable pub rights_permit : ℕ → Access → Bool
rights_permit rights Load = nat_eq (rights % 2) 1
rights_permit rights Store = nat_eq (rights / 2 % 2) 1
rights_permit rights Fetch = nat_eq (rights / 4 % 2) 1

-- an entry that points to a table in a frame: V alone
unfoldable pub table_word : ℕ → ℕ
table_word frame = frame * 1024 + 1

-- the low bits of a leaf: V 1, U 16, A 64, the rights from R 2 on, and D 128 exactly with W
unfoldable pub leaf_bits : ℕ → ℕ
leaf_bits rights = 1 + 16 + 64 + rights * 2 + rights / 2 % 2 * 128

-- a leaf whose page has this frame
unfoldable pub leaf_word : ℕ → ℕ → ℕ
leaf_word frame rights = frame * 1024 + leaf_bits rights

-- ---- its index for a virtual address, in the root and in the table of the last level

unfoldable pub vpn_1 : ℕ → ℕ
vpn_1 va = va / 2 ^ 22 % 2 ^ 10

unfoldable pub vpn_0 : ℕ → ℕ
vpn_0 va = va / 2 ^ 12 % 2 ^ 10
