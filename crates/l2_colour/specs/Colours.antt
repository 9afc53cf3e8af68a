-- The colours of frames, of lines and of the sets of a cache.
use Rattle.std.specs.Prelude.{◌≡◌, ℕ, ◌*◌, ◌/◌, ◌%◌, ◌<◌, ◌≤◌}

-- how many lines a frame has
abbrev pub lines_of : ℕ → ℕ
lines_of line_size = 4096 / line_size

-- how many colours there are: as many as frames fill the sets
abbrev pub colours_of : ℕ → ℕ → ℕ
colours_of line_size sets = sets * line_size / 4096

abbrev pub colour_of_frame : ℕ → ℕ → ℕ → ℕ
colour_of_frame line_size sets frame = frame % colours_of line_size sets

-- a line has the colour of its frame
abbrev pub colour_of_line : ℕ → ℕ → ℕ → ℕ
colour_of_line line_size sets line = colour_of_frame line_size sets (line / lines_of line_size)

-- the sets in order are whole colours, each of a frame's lines
abbrev pub colour_of_set : ℕ → ℕ → ℕ
colour_of_set line_size set = set / lines_of line_size

-- a frame is whole lines, and the sets are 1 to 64 whole colours
pub record IsColoured (line_size sets : ℕ) : Type 0 where
  pub whole_lines : lines_of line_size * line_size ≡ 4096
  pub whole_colours : colours_of line_size sets * 4096 ≡ sets * line_size
  pub some : 0 < colours_of line_size sets
  pub few : colours_of line_size sets ≤ 64
