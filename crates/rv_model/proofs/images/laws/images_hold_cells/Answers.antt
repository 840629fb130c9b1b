use Rattle.rv_model.proofs.image_lemmas.Cells.{holds_cells_below_end}
use Rattle.rv_model.proofs.images.laws.images_hold_cells.Goals as goal

pub returns : goal.returns
returns c = holds_cells_below_end
