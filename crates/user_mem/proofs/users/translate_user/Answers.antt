use Rattle.std.proofs.Common.{ℕ, subst, arith, map, List}
use Rattle.user_mem.specs.declared.entry.Entry.{Entry}
use Rattle.user_mem.specs.Pool.{table_at}
use Rattle.user_mem.specs.Table.{FitIn}
use Rattle.user_mem.specs.Translations.{Translates}
use Rattle.user_mem.proofs.PoolLaws.{table_fits}
use Rattle.user_mem.proofs.TranslationLaws.{all_translate_one}
use Rattle.user_mem.proofs.users.translate_user.Goals as goal

pub set-requires : goal.set-requires
set-requires c =
    let pool = c.requires.pool.2 in
    let tables = map (λ t. t.items) c.args.tables.now in
    rw c.user_entries.ensures
    (record {
      sorted = pool.sorted c.args.user;
      below = pool.below c.args.user;
      fit = subst (λ (n : ℕ). FitIn (table_at tables c.args.user) n) pool.size (table_fits tables c.requires.pool.0 c.requires.pool.1 c.args.user pool c.requires.user);
    })

pub returns : goal.returns
returns c =
    all_translate_one (map (λ t. t.items) c.args.tables.now) c.args.all.now c.args.user c.set.new.self (omega arith) c.requires.user
    (subst (λ (t : List Entry). Translates t c.set.new.self) c.user_entries.ensures c.set.ensures) c.requires.others
