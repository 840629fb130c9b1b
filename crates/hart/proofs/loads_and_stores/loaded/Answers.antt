use Rattle.std.proofs.Common.{◌∙◌, ap, ℕ, ◌*◌, ◌%◌, ◌^◌}
use Rattle.std.specs.Int.{byte_len}
use Rattle.rv_model.specs.scalar.LoadsAndStores.{extended, load_width}
use Rattle.hart.proofs.FirstBytes.{low_number}
use Rattle.hart.proofs.loads_and_stores.loaded.Goals as goal

pub returns : goal.returns
returns c =
    c.extend.ensures
    ∙ ap (λ (n : ℕ). extended c.args.op n) (ap (λ (n : ℕ). n % 2 ^ (8 * byte_len (load_width c.args.op))) c.from_le_bytes.ensures ∙ low_number c.args.op c.args.bytes.now c.fits-bytes)
