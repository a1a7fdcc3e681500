-- Calls that change files, after which what was appended to each file are bytes as before.
use Rattle.leveldb_env.proofs.AppendedLemmas.{Fine, fine_kept, fine_longer, fine_none, fine_synced, renamed_fine, with_fine}
use Rattle.leveldb_env.specs.Env.{File, Files, file_kept, kept_file, longer_file, or_empty}
use Rattle.leveldb_files.specs.Steps.StoreStays.{AppendedAreBytesAfter}
use Rattle.leveldb_files.specs.Steps.StoreSteps.{AppendedAreBytes}
use Rattle.std.proofs.Common.{None, Option, Some, []}
use Rattle.std.specs.Option.{option_map}

fine_made : (file : Option File) → Fine file → Fine (or_empty file)
fine_made None fine = fine_kept []
fine_made (Some file) fine = fine

pub bytes_stay : (files : Files) → AppendedAreBytes files → AppendedAreBytesAfter files
bytes_stay files bytes = record {
  make = λ name.
      with_fine name (or_empty (files name)) files bytes (fine_made (files name) (bytes name));
  empty = λ name. with_fine name (Some (kept_file [])) files bytes (fine_kept []);
  append = λ name more are.
      with_fine name (option_map (longer_file more) (files name)) files bytes
      (fine_longer more are (files name) (bytes name));
  sync = λ name.
      with_fine name (option_map file_kept (files name)) files bytes (fine_synced (files name));
  rename = λ from to. renamed_fine from to files bytes;
  delete = λ name. with_fine name None files bytes fine_none;
}
