-- A table by some compressors is one by compressors that decode more.
use Rattle.leveldb_base.specs.BlockHandle.{Handle}
use Rattle.leveldb_base.specs.Types.{Pair}
use Rattle.leveldb_table.specs.Table.{HasBlockAt, HasTableBlocks, IsPart, Part}
use Rattle.leveldb_table.specs.TableLaws.{DecodesMore, TablesByMore}
use Rattle.std.proofs.Common.{◌∷◌, List, [], ℕ}
use Rattle.std.specs.List.{AllByRecursion}
use Rattle.std.specs.declared.cmp.Ordering.{Ordering}

module _ (Decodes More : ℕ → List ℕ → List ℕ → Type 0) (more : DecodesMore Decodes More) where
  pub block_by_more : (file : List ℕ) (handle : Handle) (text : List ℕ)
      → HasBlockAt Decodes file handle text → HasBlockAt More file handle text
  block_by_more file handle text has = record {
    id = has.id;
    stored = has.stored;
    is_there = has.is_there;
    decoded = more has.id has.stored text has.decoded;
  }

  parts_by_more : (cmp : List ℕ → List ℕ → Ordering) (file : List ℕ) (parts : List Part)
      → AllByRecursion (IsPart Decodes cmp file) parts
      → AllByRecursion (IsPart More cmp file) parts
  parts_by_more cmp file [] each = tt
  parts_by_more cmp file (part ∷ parts) each = (
    record {
      text = each.0.text;
      is_there = block_by_more file part.handle each.0.text each.0.is_there;
      block = each.0.block;
      some = each.0.some;
    },
    parts_by_more cmp file parts each.1,
  )

  blocks_by_more : (cmp : List ℕ → List ℕ → Ordering) (file : List ℕ) (parts : List Part)
      (metas : List Pair) (meta index : Handle)
      → HasTableBlocks Decodes cmp file parts metas meta index
      → HasTableBlocks More cmp file parts metas meta index
  blocks_by_more cmp file parts metas meta index has = record {
    front = has.front;
    ends = has.ends;
    index_text = has.index_text;
    index_is_there = block_by_more file index has.index_text has.index_is_there;
    index_block = has.index_block;
    each = parts_by_more cmp file parts has.each;
    parted = has.parted;
    meta_text = has.meta_text;
    meta_is_there = block_by_more file meta has.meta_text has.meta_is_there;
    meta_block = has.meta_block;
  }

pub tables_by_more : (Decodes More : ℕ → List ℕ → List ℕ → Type 0) → TablesByMore Decodes More
tables_by_more Decodes More more accepts cmp meaning user file pairs table = record {
  parts = table.parts;
  metas = table.metas;
  meta = table.meta;
  index = table.index;
  tabled = blocks_by_more Decodes More more cmp file table.parts table.metas table.meta
      table.index table.tabled;
  accepted = table.accepted;
  sorted = table.sorted;
  pairs_are = table.pairs_are;
  filters = table.filters;
}
