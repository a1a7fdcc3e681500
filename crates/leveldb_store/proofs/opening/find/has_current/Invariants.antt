use Rattle.std.proofs.Common.{◌≡◌, take}
use Rattle.std.specs.Prelude.{All}
use Rattle.leveldb_base.specs.declared.types.FileType.TheVariants.{Current}
use Rattle.leveldb_store.specs.declared.opening.listing.ListedFile.{ListedFile}
use Rattle.leveldb_store.proofs.opening.find.has_current.Given as goal

abbrev pub invariant-loop-file : goal.invariant-loop-file
invariant-loop-file l = All (λ (file : ListedFile). file.kind ≡ Current → ⊥) (take l.file-index l.files)
