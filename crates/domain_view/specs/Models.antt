-- How contracts see the code's views.
use Rattle.world_view.specs.View as view
use Rattle.world_view.specs.Seen.{seen_of}
use Rattle.domain_view.specs.declared.view.View.{View}

abbrev pub view_model : View → view.View
view_model v = seen_of v.domain.now v.memory.now
