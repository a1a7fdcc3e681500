use Rattle.std.proofs.Common.{◌≡◌, ◌≢◌, refl, subst}
use Rattle.std.specs.declared.cmp.Ordering.TheVariants.{Less}
use Rattle.leveldb_base.specs.KeyTypes.{user_part}
use Rattle.leveldb_env.specs.Env.{AreBytes}
use Rattle.leveldb_version_set.specs.Compactions.Compaction.{MayMove}
use Rattle.leveldb_version.specs.Versions.Version.{new_files_of}
use Rattle.leveldb_store.proofs.Compactions.MovedFileLemmas.{first_is_alone}
use Rattle.leveldb_store.proofs.open_store.OpenStore.moved_alone.Goals as goal

pub returns : goal.returns
returns g c =
    let it = c.args.compaction.now in
    let cmp = g.C.Cmp.cmp c.args.self.now.cmp in
    let may = subst (λ o. MayMove o it.max_file_size it.level it.manual (new_files_of it.version) (new_files_of it.inputs)) c.requires.order
    (c.if-not-is_trivial_move.ensures.0 refl) in
    let found = c.in_ok-file.field-0.now.1 in
    let first : c.deref.result.now ≡ found.smallest = c.deref.ensures in
    let last : c.deref-2.result.now ≡ found.largest = c.deref-2.ensures in
    let ends = c.if-not-are_in_order.ensures.order.0 refl in
    record {
      alone = record {
        alone = first_is_alone cmp it c.in_ok-file.field-0.now may c.in_ok-file.ensures;
        may = may;
        ordered = subst (λ key. cmp (user_part key) (user_part found.smallest) ≢ Less) last
            (subst (λ key. cmp (user_part c.deref-2.result.now) (user_part key) ≢ Less) first ends);
        smallest = subst AreBytes first c.are_in_order.ensures.first;
        largest = subst AreBytes last c.are_in_order.ensures.last;
      };
    }
