-- Every row comes out, by computation.
use Rattle.std.proofs.Common.{refl}
use Rattle.cases.specs.declared.Case.TheVariants.{A, B, Stays, Wraps, Refuses, Ends}
use Rattle.cases.specs.Table.{EveryRow}

pub every_row_lem : EveryRow
every_row_lem A = (refl, (refl, (refl, tt)))
every_row_lem B = (refl, (refl, (refl, (refl, (refl, (refl, (refl, tt)))))))
every_row_lem Stays = (refl, (refl, (refl, (refl, tt))))
every_row_lem Wraps = (refl, (refl, (refl, (refl, tt))))
every_row_lem Refuses = (refl, (refl, (refl, (refl, (refl, (refl, (refl, (refl, (refl, tt)))))))))
every_row_lem Ends = (refl, (refl, (refl, (refl, (refl, (refl, (refl, (refl, (refl, tt)))))))))
