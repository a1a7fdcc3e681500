use Rattle.std.proofs.Common.{◌≡◌, ◌⊎◌, ◌∙◌, refl, sym, true, false}
use Rattle.std.proofs.lemmas.List.Elements.{All-nil}
use Rattle.leveldb_base.specs.declared.types.FileType.TheVariants.{Log, Table}
use Rattle.leveldb_store.specs.declared.opening.listing.ListedFile.{ListedFile}
use Rattle.leveldb_store.proofs.Openings.ListingLemmas.{all_more, any_one, none_at_all}
use Rattle.leveldb_store.proofs.opening.find.has_table_or_log.Goals as goal

pub loop-file-init : goal.loop-file-init
loop-file-init c = All-nil (λ (file : ListedFile). (file.kind ≡ Table) ⊎ (file.kind ≡ Log) → ⊥)

pub loop-file-preserved : goal.loop-file-preserved
loop-file-preserved c = all_more (λ (file : ListedFile). (file.kind ≡ Table) ⊎ (file.kind ≡ Log) → ⊥) c.args.files.now c.loop-file.file-index c.file-item.result c.loop-file-test.true c.file-item.is c.loop-file.invariant
    (λ it. let never : true ≡ false = sym (c.kind_has_entries.ensures.1 it) ∙ c.if-kind_has_entries.false in absurd (cc never))

pub returns-then-kind_has_entries : goal.returns-then-kind_has_entries
returns-then-kind_has_entries c =
    (λ true. any_one (λ (file : ListedFile). (file.kind ≡ Table) ⊎ (file.kind ≡ Log)) c.args.files.now c.loop-file.file-index c.file-item.result c.loop-file-test.true c.file-item.is (c.kind_has_entries.ensures.0 c.if-kind_has_entries.true), λ some. refl)

pub returns : goal.returns
returns c = (λ never. absurd (cc never), λ some. absurd (none_at_all (λ (file : ListedFile). (file.kind ≡ Table) ⊎ (file.kind ≡ Log)) c.args.files.now c.loop-file.file-index c.loop-file-test.false c.loop-file.invariant some))
