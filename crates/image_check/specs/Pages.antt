-- The pages of a domain, its regions and the frames that they need; and its share of the memory's frames.
pub use Rattle.domain_check.specs.Pages.{has_page, meets, regions_in, frames_in}
unfoldable pub use Rattle.domain_check.specs.Pages.{has_page_in, has_region, regions_below, pages_below, pages_in}
use Rattle.frame_colours.specs.Colours.{Share}
use Rattle.hardware_check.specs.Hardware.{Hardware, colours_of}
use Rattle.image_check.specs.Own.{Own}

-- the domain's share of the memory, by its colours
abbrev pub share_of : Hardware → Own → Share
share_of p o = record { frames = p.frames; colours = colours_of p; own = o.colours }
