-- The promise of every rehearsal: its moves are actions of its world, and turns of each of its clocks.
use Rattle.std.proofs.Common.{◌≡◌, ℕ, ◌+◌, ◌-◌, ◌<◌, ◌≤◌, Bool, true, false, cond, ◌&&◌, eqb, ltb, leb, List, [], ◌∷◌, ◌++◌, map, length, get_or, take, set, replicate, is_ok, Ok, Err, sym, refl, ap, ◌∙◌, subst, inl, inr, append_assoc, append-nil, arith, length-set, get_or-set_other, get_or-set_same}
use lib.ListN.{length-replicate, get_or-replicate}
use Rattle.std.proofs.lemmas.List.Sums.{fold-append}
use Rattle.std.proofs.lemmas.List.{length-map, get_or-map, take-replicate}
use Rattle.std.proofs.lemmas.Bool.{cases_Bool, cases_eq, cond_both, cond-true, cond-false, and_parts, and_from, and_left, and_right, leb-true, eqb-true, eq-eqb, ne_eqb, lt-ltb}
use Rattle.clocks.specs.Time.{million, highest, RunsFrom}
use Rattle.clocks.specs.declared.counting.Drift.{Drift}
use Rattle.clocks.specs.declared.counting.Drift.TheVariants as drift
use Rattle.clocks.specs.Counting.{Counting, Dial, Turn, pass, change, turn, turned, turns, fresh, fresh_dial, shown, elapsed, Within}
use Rattle.clocks.specs.Dials.{parts_of, pace_of}
use Rattle.clocks.proofs.Counts.{counting_runs_lem}
use Rattle.votes.specs.declared.types.Setup.{Setup}
use Rattle.votes.specs.declared.types.Refusal.{Refusal}
use Rattle.votes.specs.declared.types.Refusal.TheVariants.{Invalid}
use Rattle.world.specs.declared.actions.Input.TheVariants as input
use Rattle.world.specs.declared.actions.Action.{Action}
use Rattle.world.specs.declared.actions.Action.TheVariants as action
use Rattle.world.specs.declared.actions.Reply.{Reply}
use Rattle.world.specs.declared.actions.Reply.TheVariants as reply
use Rattle.world.specs.declared.machine.Machine.{Machine}
use Rattle.world.specs.Step.{WorldView, nobody, machine_of, made, valid, start, reply_of, step, run}
use Rattle.world.specs.Promise.{FewFaulty, Given, Reads}
use Rattle.world.proofs.Worlds.{spans_hold_lem}
use Rattle.rehearse.specs.Rehearsals.{RehearsalView, no_dial, dial_at, there, opening, input_reply, input_after, can_pace, pace_after, all_go_on, pass_reply}
use Rattle.rehearse.proofs.Opens.{valid_rate}
use Rattle.rehearse.specs.Promise.{Move, passes, paces, inputs, play, plays, RehearsalsHold}

-- the actions of a move, none or one
move_actions : RehearsalView → Move → List Action
move_actions v (passes by) = cond (is_ok (pass_reply v by)) (action.Pass by ∷ []) []
move_actions v (paces j d) = []
move_actions v (inputs j i) = cond (there v j) (action.Input j (shown (dial_at v j).counting) i ∷ []) []

-- the turns of a machine's clock in a move, none or one
move_turns : ℕ → RehearsalView → Move → List Turn
move_turns k v (passes by) = cond (is_ok (pass_reply v by)) (pass by ∷ []) []
move_turns k v (paces j d) = cond (eqb k j && can_pace v j d) (change (pace_of d) ∷ []) []
move_turns k v (inputs j i) = []

actions_of : RehearsalView → List Move → List Action
actions_of v [] = []
actions_of v (m ∷ moves) = move_actions v m ++ actions_of (play v m) moves

turns_of : ℕ → RehearsalView → List Move → List Turn
turns_of k v [] = []
turns_of k v (m ∷ moves) = move_turns k v m ++ turns_of k (play v m) moves

-- LISTS OF ACTIONS AND OF TURNS

reads_both : (k : ℕ) (c : ℕ → ℕ) (w : WorldView) (xs ys : List Action) → Reads k c w xs → Reads k c (run w xs) ys → Reads k c w (xs ++ ys)
reads_both k c w [] ys p q = q
reads_both k c w (action.Pass by ∷ xs) ys p q = reads_both k c (step w (action.Pass by)) xs ys p q
reads_both k c w (action.Input j clock i ∷ xs) ys p q = (p.0, reads_both k c (step w (action.Input j clock i)) xs ys p.1 q)

elapsed_both : (ts us : List Turn) → elapsed (ts ++ us) ≡ elapsed ts + elapsed us
elapsed_both [] us = omega arith
elapsed_both (pass by ∷ ts) us = let e = elapsed_both ts us in omega arith
elapsed_both (change p ∷ ts) us = elapsed_both ts us

within_both : (rate : ℕ) (ts us : List Turn) → Within rate ts → Within rate us → Within rate (ts ++ us)
within_both rate [] us p q = q
within_both rate (pass by ∷ ts) us p q = within_both rate ts us p q
within_both rate (change x ∷ ts) us p q = (p.0, p.1, within_both rate ts us p.2 q)

-- ONE MOVE, as actions of the world

one_or_none : (b : Bool) (w : WorldView) (a : Action) (x y : RehearsalView) → x.world ≡ step w a → y.world ≡ w → run w (cond b (a ∷ []) []) ≡ (cond b x y).world
one_or_none true w a x y p q = sym p
one_or_none false w a x y p q = sym q

move_runs : (v : RehearsalView) (m : Move) → run v.world (move_actions v m) ≡ (play v m).world
unfolding move_actions
move_runs v (passes by) =
    one_or_none (is_ok (pass_reply v by)) v.world (action.Pass by) (record { world = step v.world (action.Pass by); dials = map (turned (pass by)) v.dials }) v refl refl
move_runs v (paces j d) = cond_both (can_pace v j d) _ v (λ x. v.world ≡ x.world) (λ e. refl) (λ e. refl)
move_runs v (inputs j i) =
    one_or_none (there v j) v.world (action.Input j (shown (dial_at v j).counting) i) (record { world = step v.world (action.Input j (shown (dial_at v j).counting) i); dials = v.dials }) v refl refl

-- ONE MOVE, as turns of a machine's clock

module _ (k rate : ℕ) where
  -- a machine's clock after a list of turns from the beginning on
  record At (v : RehearsalView) (ts : List Turn) : Type 0 where
    here : k < length v.dials
    rates : (dial_at v k).rate ≡ rate
    counts : (dial_at v k).counting ≡ turns ts fresh
    time : elapsed ts ≡ v.world.now

  at_same : (v : RehearsalView) (ts us : List Turn) → us ≡ [] → At v ts → At v (ts ++ us)
  at_same v ts us e a = subst (At v) (sym (ap (λ l. ts ++ l) e ∙ append-nil ts)) a

  ok_time : (a b : Bool) (r : Reply) → is_ok {T = Reply} {E = Refusal} (cond a (cond b (Ok r) (Err Invalid)) (Err Invalid)) ≡ true → b ≡ true
  ok_time true true r e = refl
  ok_time true false r e = e
  ok_time false true r e = refl
  ok_time false false r e = e

  at_pass : (v : RehearsalView) (ts : List Turn) (by : ℕ) → At v ts → is_ok (pass_reply v by) ≡ true →
      At (record { world = step v.world (action.Pass by); dials = map (turned (pass by)) v.dials }) (ts ++ (pass by ∷ []))
  at_pass v ts by a e =
      let d = get_or-map (turned (pass by)) v.dials k no_dial no_dial a.here in
      let l = ok_time (all_go_on by v.dials) (leb (v.world.now + by) highest) reply.Passed e in
      record {
        here = (let n = length-map v.dials (turned (pass by)) in let h = a.here in omega arith);
        rates = ap (λ (x : Dial). x.rate) d ∙ a.rates;
        counts = ap (λ (x : Dial). x.counting) d ∙ (ap (λ (x : Counting). turn (pass by) x) a.counts ∙ sym (fold-append (λ k t. turn t k) fresh ts (pass by ∷ [])));
        time =
            (let s : (step v.world (action.Pass by)).now ≡ v.world.now + by = ap (λ (x : WorldView). x.now) (cond-true (leb (v.world.now + by) highest) _ v.world l) in
            let e = elapsed_both ts (pass by ∷ []) in let t = a.time in omega arith);
      }

  at_pace : (v : RehearsalView) (ts : List Turn) (p : ℕ) → At v ts →
      At (record { world = v.world; dials = set v.dials k (turned (change p) (dial_at v k)) }) (ts ++ (change p ∷ []))
  at_pace v ts p a =
      let d = get_or-set_same v.dials k (turned (change p) (dial_at v k)) no_dial a.here in
      record {
        here = simp length-set a.here;
        rates = ap (λ (x : Dial). x.rate) d ∙ a.rates;
        counts = ap (λ (x : Dial). x.counting) d ∙ (ap (λ (x : Counting). turn (change p) x) a.counts ∙ sym (fold-append (λ k t. turn t k) fresh ts (change p ∷ [])));
        time = (let e = elapsed_both ts (change p ∷ []) in let t = a.time in omega arith);
      }

  at_other : (v : RehearsalView) (ts : List Turn) (j : ℕ) (x : Dial) → At v ts → (k ≡ j → ⊥) → At (record { world = v.world; dials = set v.dials j x }) ts
  at_other v ts j x a n =
      let d = get_or-set_other v.dials j k x no_dial n in
      record {
        here = simp length-set a.here;
        rates = ap (λ (y : Dial). y.rate) d ∙ a.rates;
        counts = ap (λ (y : Dial). y.counting) d ∙ a.counts;
        time = a.time;
      }

  at_input : (v : RehearsalView) (ts : List Turn) (w : WorldView) → At v ts → w.now ≡ v.world.now → At (record { world = w; dials = v.dials }) ts
  at_input v ts w a e = record { here = a.here; rates = a.rates; counts = a.counts; time = a.time ∙ sym e }

  pace_moved : (v : RehearsalView) (ts : List Turn) (j : ℕ) (d : Drift) → At v ts →
      At (pace_after v j d) (ts ++ cond (eqb k j && can_pace v j d) (change (pace_of d) ∷ []) [])
  pace_moved v ts j d a =
      cond_both (can_pace v j d) (record { world = v.world; dials = set v.dials j (turned (change (pace_of d)) (dial_at v j)) }) v
      (λ x. At x (ts ++ cond (eqb k j && can_pace v j d) (change (pace_of d) ∷ []) []))
      (λ e. elim (cases_eq k j) [
        | inl q ↦
            subst (λ l. At (record { world = v.world; dials = set v.dials j (turned (change (pace_of d)) (dial_at v j)) }) (ts ++ l))
            (sym (cond-true (eqb k j && can_pace v j d) (change (pace_of d) ∷ []) [] (and_from (eqb k j) (can_pace v j d) (eq-eqb k j q) e)))
            (subst (λ n. At (record { world = v.world; dials = set v.dials n (turned (change (pace_of d)) (dial_at v n)) }) (ts ++ (change (pace_of d) ∷ []))) q (at_pace v ts (pace_of d) a))
        | inr n ↦
            at_same (record { world = v.world; dials = set v.dials j (turned (change (pace_of d)) (dial_at v j)) }) ts (cond (eqb k j && can_pace v j d) (change (pace_of d) ∷ []) [])
            (cond-false (eqb k j && can_pace v j d) (change (pace_of d) ∷ []) [] (and_left (eqb k j) (can_pace v j d) (ne_eqb k j n)))
            (at_other v ts j (turned (change (pace_of d)) (dial_at v j)) a n)
      ])
      (λ e. at_same v ts (cond (eqb k j && can_pace v j d) (change (pace_of d) ∷ []) [])
      (cond-false (eqb k j && can_pace v j d) (change (pace_of d) ∷ []) [] (and_right (eqb k j) (can_pace v j d) e)) a)

  moved : (v : RehearsalView) (ts : List Turn) (m : Move) → At v ts → At (play v m) (ts ++ move_turns k v m)
  unfolding move_turns
  moved v ts (passes by) a =
      elim (cases_Bool (is_ok (pass_reply v by))) [
        | inl e ↦
            subst (λ x. At x (ts ++ cond (is_ok (pass_reply v by)) (pass by ∷ []) [])) (sym (cond-true (is_ok (pass_reply v by)) _ v e))
            (subst (λ l. At (record { world = step v.world (action.Pass by); dials = map (turned (pass by)) v.dials }) (ts ++ l)) (sym (cond-true (is_ok (pass_reply v by)) (pass by ∷ []) [] e)) (at_pass v ts by a e))
        | inr e ↦
            subst (λ x. At x (ts ++ cond (is_ok (pass_reply v by)) (pass by ∷ []) [])) (sym (cond-false (is_ok (pass_reply v by)) _ v e))
            (at_same v ts (cond (is_ok (pass_reply v by)) (pass by ∷ []) []) (cond-false (is_ok (pass_reply v by)) (pass by ∷ []) [] e) a)
      ]
  moved v ts (paces j d) a = pace_moved v ts j d a
  moved v ts (inputs j i) a =
      at_same (input_after v j i) ts [] refl
      (cond_both (there v j) (record { world = step v.world (action.Input j (shown (dial_at v j).counting) i); dials = v.dials }) v (λ x. At x ts)
      (λ e. at_input v ts (step v.world (action.Input j (shown (dial_at v j).counting) i)) a
      (cond_both (ltb j (length v.world.machines)) _ v.world (λ x. x.now ≡ v.world.now) (λ f. refl) (λ f. refl)))
      (λ e. a))

  -- a pace that is taken is within the rate
  pace_within : (d : Drift) → rate ≤ 1000 → parts_of d ≤ rate → (million - rate ≤ pace_of d) × (pace_of d ≤ million + rate)
  pace_within (drift.Fast parts) r h = (omega arith, omega arith)
  pace_within (drift.Slow parts) r h = (omega arith, omega arith)

  move_within : (v : RehearsalView) (ts : List Turn) (m : Move) → rate ≤ 1000 → At v ts → Within rate (move_turns k v m)
  unfolding move_turns
  move_within v ts (passes by) r a = cond_both (is_ok (pass_reply v by)) (pass by ∷ []) [] (Within rate) (λ e. tt) (λ e. tt)
  move_within v ts (paces j d) r a =
      cond_both (eqb k j && can_pace v j d) (change (pace_of d) ∷ []) [] (Within rate)
      (λ e.
      let p = and_parts (eqb k j) (can_pace v j d) e in
      let q = and_parts (there v j) (leb (parts_of d) (dial_at v j).rate) p.1 in
      let j_is_k = eqb-true k j p.0 in
      let l : parts_of d ≤ (dial_at v j).rate = leb-true (parts_of d) (dial_at v j).rate q.1 in
      let s : (dial_at v j).rate ≡ rate = ap (λ n. (dial_at v n).rate) (sym j_is_k) ∙ a.rates in
      let b = pace_within d r (omega arith) in (b.0, b.1, tt))
      (λ e. tt)
  move_within v ts (inputs j i) r a = tt

  turns_within : (v : RehearsalView) (ts : List Turn) (moves : List Move) → rate ≤ 1000 → At v ts → Within rate (turns_of k v moves)
  unfolding turns_of
  turns_within v ts [] r a = tt
  turns_within v ts (m ∷ moves) r a =
      within_both rate (move_turns k v m) (turns_of k (play v m) moves) (move_within v ts m r a) (turns_within (play v m) (ts ++ move_turns k v m) moves r (moved v ts m a))

  -- what a clock shows is what the world is told
  module _ (c : ℕ → ℕ) (all : List Turn) (shows : (before after : List Turn) → all ≡ before ++ after → c (elapsed before) ≡ shown (turns before fresh)) where
    move_reads : (v : RehearsalView) (ts rest : List Turn) (m : Move) → all ≡ ts ++ rest → At v ts → Reads k c v.world (move_actions v m)
    unfolding move_actions
    move_reads v ts rest (passes by) e a = cond_both (is_ok (pass_reply v by)) (action.Pass by ∷ []) [] (Reads k c v.world) (λ p. tt) (λ p. tt)
    move_reads v ts rest (paces j d) e a = tt
    move_reads v ts rest (inputs j i) e a =
        cond_both (there v j) (action.Input j (shown (dial_at v j).counting) i ∷ []) [] (Reads k c v.world)
        (λ p. ((λ q. ap (λ n. shown (dial_at v n).counting) q ∙ (ap shown a.counts ∙ (sym (shows ts rest e) ∙ ap c a.time))), tt)) (λ p. tt)

    -- over a list of moves
    record Over (v : RehearsalView) (moves : List Move) : Type 0 where
      reads : Reads k c v.world (actions_of v moves)
      runs : run v.world (actions_of v moves) ≡ (plays v moves).world
      end : At (plays v moves) all

    over : (v : RehearsalView) (ts : List Turn) (moves : List Move) → all ≡ ts ++ turns_of k v moves → At v ts → Over v moves
    unfolding actions_of turns_of
    over v ts [] e a = record { reads = tt; runs = refl; end = subst (At v) (sym (e ∙ append-nil ts)) a }
    over v ts (m ∷ moves) e a =
        let o = over (play v m) (ts ++ move_turns k v m) moves (e ∙ sym (append_assoc ts (move_turns k v m) (turns_of k (play v m) moves))) (moved v ts m a) in
        let w = move_runs v m in
        record {
          reads = reads_both k c v.world (move_actions v m) (actions_of (play v m) moves) (move_reads v ts (move_turns k v m ++ turns_of k (play v m) moves) m e a) (subst (λ x. Reads k c x (actions_of (play v m) moves)) (sym w) o.reads);
          runs = fold-append step v.world (move_actions v m) (actions_of (play v m) moves) ∙ (ap (λ x. run x (actions_of (play v m) moves)) w ∙ o.runs);
          end = o.end;
        }

-- THE PROMISE

module _ (machines : ℕ) (s : Setup) (four : machines ≤ 4) (k : ℕ) (h : k < machines) where
  setups_are : take machines (replicate 4 s) ≡ replicate machines s
  setups_are = take-replicate machines 4 s four

  setup_there : k < length (take machines (replicate 4 s))
  setup_there = let e = ap length setups_are in let l = length-replicate machines s in omega arith

  start_rate : (machine_of (start (take machines (replicate 4 s))) k).votes.rate ≡ s.rate
  start_rate =
      ap (λ (m : Machine). m.votes.rate) (get_or-map made (take machines (replicate 4 s)) k s nobody setup_there)
      ∙ ap (λ (x : Setup). x.rate) (ap (λ l. get_or l k s) setups_are ∙ get_or-replicate machines k s s h)

  at_start : At k s.rate (opening machines s) []
  at_start =
      let d = get_or-replicate machines k (fresh_dial s.rate) no_dial h in
      record {
        here = (let l = length-replicate machines (fresh_dial s.rate) in omega arith);
        rates = ap (λ (x : Dial). x.rate) d;
        counts = ap (λ (x : Dial). x.counting) d;
        time = refl;
      }

  module _ (ok : valid (take machines (replicate 4 s)) ≡ true) (moves : List Move) where
    v : RehearsalView
    v = plays (opening machines s) moves

    held : FewFaulty (machine_of v.world k) → Given (input_reply v k input.Span) v.world.now
    unfolding v
    held few =
        let small = valid_rate machines s (s ∷ s ∷ s ∷ []) ok in
        let within = turns_within k s.rate (opening machines s) [] moves small at_start in
        let clock = counting_runs_lem s.rate (turns_of k (opening machines s) moves) small within in
        let o = over k s.rate clock.0 (turns_of k (opening machines s) moves) clock.2 (opening machines s) [] moves refl at_start in
        let at = o.end in
        let here = clock.2 (turns_of k (opening machines s) moves) [] (sym (append-nil (turns_of k (opening machines s) moves))) in
        let now_is : clock.0 (run (start (take machines (replicate 4 s))) (actions_of (opening machines s) moves)).now ≡ shown (dial_at v k).counting =
        ap (λ (w : WorldView). clock.0 w.now) o.runs ∙ (ap clock.0 (sym at.time) ∙ (here ∙ ap shown (sym at.counts))) in
        let g = spans_hold_lem (take machines (replicate 4 s)) ok (actions_of (opening machines s) moves) k (shown (dial_at v k).counting) clock.0 setup_there
        (subst (λ r. RunsFrom r 0 clock.0) (sym start_rate) clock.1) o.reads now_is
        (subst (λ w. FewFaulty (machine_of w k)) (sym o.runs) few) in
        subst (λ r. Given r v.world.now) (sym (cond-true (there v k) _ _ (lt-ltb k (length v.dials) at.here)))
        (subst (λ w. Given (reply_of w (action.Input k (shown (dial_at v k).counting) input.Span)) w.now) o.runs g)

pub rehearsals_hold_lem : RehearsalsHold
unfolding v
rehearsals_hold_lem machines s ok moves k h few =
    let p = and_parts (leb machines 4) (valid (take machines (replicate 4 s))) ok in held machines s (leb-true machines 4 p.0) k h p.1 moves few
