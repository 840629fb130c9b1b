use Rattle.std.proofs.Common.{arith}
use Rattle.elf_load.proofs.PoolLaws.{mapped_none, map_accepted, mapped_more, mapped_all}
use Rattle.elf_load.proofs.placing.map_pages.Goals as goal

pub loop-page-init : goal.loop-page-init
loop-page-init g c = record { pool = mapped_none c.args.pool.now c.args.user c.args.image.now c.requires.free; low = omega arith }

pub unreachable-requires : goal.unreachable-requires
unreachable-requires g c =
    let accepted = c.in_default-map.ensures.accepted.1 (map_accepted c.args.pool.now c.loop-page.pool c.args.user c.args.image.now c.loop-page.from c.in-Some.page c.requires.known c.loop-page.invariant.pool c.in-Some.ensures.bound c.in-Some.ensures.first c.requires.few) in
    cc

pub loop-page-preserved : goal.loop-page-preserved
loop-page-preserved g c = record {
  pool = mapped_more c.args.pool.now c.loop-page.pool c.map.new.self c.args.user c.args.image.now c.loop-page.from c.in-Some.page c.permissions_of.result c.requires.known c.loop-page.invariant.pool
      c.in-Some.ensures.bound c.in-Some.ensures.first c.permissions_of.ensures c.in-Ok.ensures.ok;
  low = omega (arith, c.in-Some.ensures.bound);
}

pub returns : goal.returns
returns g c = mapped_all c.args.pool.now c.loop-page.pool c.args.user c.args.image.now c.loop-page.from c.loop-page.invariant.pool c.loop-page.invariant.low c.in_default.ensures.first
