-- A domain's pool, and what stands in which of its frames. At its places are, from 0 on: the text (two frames), the stack
-- and the data of the domain's kernel clone; its root; a table for each region that has a page, by ascending regions; its
-- pages, by ascending numbers. All others are free.
use Rattle.std.specs.Prelude.{ℕ, ◌+◌, ◌&&◌, nat_lt, Bool, List, take, drop}
use Rattle.frame_colours.specs.Colours as colours
use Rattle.hardware_check.specs.Hardware.{Hardware}
use Rattle.image_check.specs.Own.{Own}
use Rattle.image_check.specs.Pages.{regions_below, regions_in, pages_below, pages_in, frames_in, share_of}

-- ---- the pool

-- whether a frame of memory is of the domain's pool
abbrev pub own_frame : Hardware → Own → ℕ → Bool
own_frame p o f = nat_lt f p.frames && colours.has_colour (share_of p o) f

-- its frames, ascending
abbrev pub pool : Hardware → Own → List ℕ
pool p o = colours.pool (share_of p o)

-- the frame at place n of the pool
abbrev pub pool_frame : Hardware → Own → ℕ → ℕ
pool_frame p o n = colours.frame_at (share_of p o) n

-- ---- what stands where

abbrev pub root_of : Hardware → Own → ℕ
root_of p o = pool_frame p o 4

-- the table of a region
abbrev pub table_frame : Hardware → Own → ℕ → ℕ
table_frame p o r = pool_frame p o (5 + regions_below o.segments r)

abbrev pub page_frame : Hardware → Own → ℕ → ℕ
page_frame p o n = pool_frame p o (5 + regions_in o.segments + pages_below o.segments n)

-- ---- the same as lists, each ascending

abbrev pub clone_frames : Hardware → Own → List ℕ
clone_frames p o = take 4 (pool p o)

abbrev pub first_tables : Hardware → Own → List ℕ
first_tables p o = take (regions_in o.segments) (drop 5 (pool p o))

abbrev pub page_frames : Hardware → Own → List ℕ
page_frames p o = take (pages_in o.segments) (drop (5 + regions_in o.segments) (pool p o))

abbrev pub free_frames : Hardware → Own → List ℕ
free_frames p o = drop (frames_in o.segments) (pool p o)
