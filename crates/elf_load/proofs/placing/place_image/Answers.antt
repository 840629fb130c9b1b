use Rattle.elf_load.proofs.PoolLaws.{replaced_thrice}
use Rattle.elf_load.proofs.placing.place_image.Goals as goal

pub returns : goal.returns
returns g c = replaced_thrice c.args.pool.now c.drop_user.new.self c.map_pages.new.pool _ c.args.user _ _ _ c.drop_user.ensures.dropped c.map_pages.ensures c.write_segments.ensures
