use Rattle.std.proofs.Common.{⊎_elim, inl, inr, None, refl}
use Rattle.leveldb_iter.proofs.merging_iter.MergeCore.new.Goals as goal

pub returns-clause-is_at : goal.returns-clause-is_at
returns-clause-is_at g c = λ world order lists pairs merged. (lists, record { placed = (merged, refl) })

pub returns-clause-fails : goal.returns-clause-fails
returns-clause-fails g c = λ world later status failed. ⊎_elim
    (λ any. inl any)
    (λ clash. inr (clash.0, λ order lists pairs merged. clash.1 order lists pairs None (record { placed = (merged, refl) })))
    failed
