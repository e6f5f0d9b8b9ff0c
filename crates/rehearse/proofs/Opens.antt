-- The rate of machines that can be made.
use Rattle.std.proofs.Common.{◌≡◌, ℕ, zero, suc, ◌*◌, ◌≤◌, true, ◌&&◌, ltb, leb, List, ◌∷◌, length, take}
use Rattle.std.specs.List.{list_all}
use Rattle.std.proofs.lemmas.Bool.{and_parts, leb-true, false≢true}
use Rattle.votes.specs.declared.types.Setup.{Setup}
use Rattle.votes.specs.Exchanges.{valid_setup}
use Rattle.world.specs.Step.{valid}

-- machines that can be made have a rate that a clock can have
pub valid_rate : (n : ℕ) (s : Setup) (ss : List Setup) → valid (take n (s ∷ ss)) ≡ true → s.rate ≤ 1000
valid_rate zero s ss e = absurd (false≢true e)
valid_rate (suc n) s ss e =
    let a = and_parts (leb 1 (length (take (suc n) (s ∷ ss))) && leb (length (take (suc n) (s ∷ ss))) 8) (list_all valid_setup (take (suc n) (s ∷ ss))) e in
    let b = and_parts (valid_setup s) (list_all valid_setup (take n ss)) a.1 in
    let c = and_parts (leb s.servers 16 && ltb (2 * s.faulty) s.servers) (leb s.rate 1000) b.0 in
    leb-true s.rate 1000 c.1
