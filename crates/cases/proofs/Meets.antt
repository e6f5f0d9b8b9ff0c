-- The premises of the promise about spans can be met.
use Rattle.std.proofs.Common.{◌≡◌, ◌≤◌, sym, refl, ap, arith, lit<, lit≤}
use Rattle.clocks.specs.declared.growth.Answer.{Answer}
use Rattle.votes.specs.Promise.{none, good, faulty}
use Rattle.world.specs.Step.{machine_of}
use Rattle.world.specs.Promise.{Truthful}
use Rattle.cases.specs.Met.{after, PremisesMet}

lie : Answer
lie = record { asked = 1000100; answered = 1000120; span = record { low = 5000; high = 5001 } }

lying : Truthful (machine_of after 0) 2 → ⊥
unfolding lie
lying t =
    let e : lie ≡ t.answer = (let k = t.known in cc) in
    let l : t.answer.span.high ≡ 5001 = ap (λ (a : Answer). a.span.high) (sym e) in
    let h = t.holds.1 in
    let b : 1000000 ≤ t.held = t.early in
    omega arith

pub premises_met_lem : PremisesMet
premises_met_lem =
    record {
      runs = record { slow = λ t u s h. omega arith; fast = λ t u s h. omega arith; onward = λ t u s h. omega arith };
      made = refl;
      there = lit< tt;
      reads = (λ e. refl, (λ e. refl, (λ e. refl, (λ e. refl, (λ e. refl, (λ e. refl, tt))))));
      now = refl;
      few =
          good (record { answer = record { asked = 1000100; answered = 1000120; span = record { low = 1000000; high = 1000010 } }; known = refl; held = 1000005; early = lit≤ tt; late = lit≤ tt; holds = (lit≤ tt, lit≤ tt) })
          (good (record { answer = record { asked = 1000100; answered = 1000120; span = record { low = 999990; high = 1000030 } }; known = refl; held = 1000020; early = lit≤ tt; late = lit≤ tt; holds = (lit≤ tt, lit≤ tt) })
          (faulty none));
      lies = lying;
    }
