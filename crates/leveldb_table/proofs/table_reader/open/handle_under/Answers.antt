use Rattle.std.proofs.Common.{◌≡◌, ℕ, List, Option, None, Some, sym, ap, ◌∙◌, subst, inr, refl}
use Rattle.std.specs.Map.{lookup}
use Rattle.std.specs.Str.{bytes_eq}
use Rattle.std.proofs.lemmas.Bool.{true≢false}
use Rattle.std.proofs.lemmas.Result.{err_from_is_err_and}
use Rattle.std.proofs.lemmas.Slice.Eq.{bytes_eq-Decides}
use Rattle.leveldb_base.specs.Cmp.{bytewise}
use Rattle.leveldb_base.specs.Types.{Pair, seek_position, pair_at}
use Rattle.leveldb_table.specs.Block.{KeysRise, pairs_of}
use Rattle.leveldb_table.specs.TableReader.{GivesHandle, GivesNoHandle}
use Rattle.leveldb_table.proofs.TableReaderLemmas.{sought, value_if, value_found, value_here, value_other}
use Rattle.leveldb_table.proofs.table_reader.open.handle_under.Goals.{in_default-via-in-Some+else-eq, in_default-via-in_default}
use Rattle.leveldb_table.proofs.table_reader.open.handle_under.Goals as goal

-- what is where the walk is says the value under the key
value_there_is : {now block pairs : List Pair} {position : Option ℕ} {found : Option Pair} (key : List ℕ) → KeysRise bytewise pairs → now ≡ block → block ≡ pairs → position ≡ seek_position bytewise block key → found ≡ pair_at now position
    → lookup (bytes_eq key) pairs ≡ value_if key found
value_there_is {now} {block} {pairs} {position} {found} key rise same lent at is =
    value_found key pairs rise ∙ ap (value_if key)
    (sym (sought bytewise key pairs) ∙ sym (is ∙ ap (λ ps. pair_at ps position) (same ∙ lent) ∙ ap (pair_at pairs) (at ∙ ap (λ ps. seek_position bytewise ps key) lent)))

pub returns-in_err-whole_handle-in-Some-clause-cause : goal.returns-in_err-whole_handle-in-Some-clause-cause
returns-in_err-whole_handle-in-Some-clause-cause c =
    let key = c.args.key.now in
    let name = c.in-Some.name.now in
    let lent = ap (λ b. pairs_of None b.entries) c.iter-lines.ensures.block in
    let there = value_there_is key c.iter-lines.ensures.encoded.sorted c.in_ok-seek.ensures.keeps.same_pairs lent c.in_ok-seek.ensures.ok c.in-Some.ensures in
    let same = (bytes_eq-Decides name key).0 (sym c.eq.ensures ∙ c.if-eq.true) in
    let p = err_from_is_err_and c.from_residual-in_err-whole_handle-in-Some.result c.from_residual-in_err-whole_handle-in-Some.ensures.1 in
    let damage = c.in_err-whole_handle-in-Some.ensures.err in
    rw (p.1, p.2) (inr (damage.0, subst GivesNoHandle (sym (there ∙ value_here key (Some (name, c.in-Some.value.now)) name c.in-Some.value.now refl same)) damage.1))

pub returns-in-Some-clause-ok : goal.returns-in-Some-clause-ok
returns-in-Some-clause-ok c =
    let key = c.args.key.now in
    let name = c.in-Some.name.now in
    let lent = ap (λ b. pairs_of None b.entries) c.iter-lines.ensures.block in
    let there = value_there_is key c.iter-lines.ensures.encoded.sorted c.in_ok-seek.ensures.keeps.same_pairs lent c.in_ok-seek.ensures.ok c.in-Some.ensures in
    let same = (bytes_eq-Decides name key).0 (sym c.eq.ensures ∙ c.if-eq.true) in
    subst (λ value. GivesHandle value (Some c.in_ok-whole_handle-in-Some.field-0)) (sym (there ∙ value_here key (Some (name, c.in-Some.value.now)) name c.in-Some.value.now refl same)) c.in_ok-whole_handle-in-Some.ensures.ok

pub returns-clause-ok : goal.returns-clause-ok
returns-clause-ok c =
    let key = c.args.key.now in
    let lent = ap (λ b. pairs_of None b.entries) c.iter-lines.ensures.block in
    let rise = c.iter-lines.ensures.encoded.sorted in
    let seek = c.in_ok-seek.ensures in
    let none : lookup (bytes_eq key) (pairs_of None c.args.metas.now.entries) ≡ None = elim c.in_default.branch [
      | in_default-via-in-Some+else-eq w ↦
          let other = λ (same : w.in-Some.name.now ≡ key). true≢false (sym ((bytes_eq-Decides w.in-Some.name.now key).1 same) ∙ sym w.eq.ensures ∙ w.if-eq.false) in
          value_there_is key rise seek.keeps.same_pairs lent seek.ok w.in-Some.ensures ∙ value_other key (Some (w.in-Some.name.now, w.in-Some.value.now)) w.in-Some.name.now w.in-Some.value.now refl other
      | in_default-via-in_default w ↦ value_there_is key rise seek.keeps.same_pairs lent seek.ok w.in_default.ensures
    ] in
    subst (λ value. GivesHandle value None) (sym none) refl
