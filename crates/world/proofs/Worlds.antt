-- The promise over every list of actions.
use Rattle.std.proofs.Common.{◌≡◌, ℕ, zero, suc, ◌+◌, ◌*◌, ◌<◌, ◌≤◌, true, ◌&&◌, ltb, leb, List, [], ◌∷◌, ◌++◌, map, length, get_or, take, drop, set, replicate, Ok, Err, Result, sym, refl, ap, ◌∙◌, subst, inl, inr, add-one, arith, length-set, drop-cons, get_or-set_other, get_or-set_same}
use mathlib.Core.Logic.{∥∥₁_elim}
use denote.Struct.Props.{props}
use Rattle.std.proofs.lemmas.List.{length-map, get_or-map}
use Rattle.std.proofs.lemmas.Bool.{cases_Bool, both_ways, cases_eq, cond_both, cond-true, leb-true, ltb-true, lt-ltb, and_parts}
use Rattle.std.specs.List.{range_with_len, list_all}
use Rattle.std.proofs.lemmas.List.Folds.{list_all_at}
use Rattle.std.proofs.lemmas.List.Sums.{fold-append}
use Rattle.clocks.specs.declared.growth.Span.{Span}
use Rattle.clocks.specs.Time.{RunsFrom, Holds, highest}
use Rattle.votes.specs.declared.types.Exchange.{Exchange}
use Rattle.votes.specs.declared.types.Setup.{Setup}
use Rattle.votes.specs.declared.types.Refusal.{Refusal}
use Rattle.votes.specs.Exchanges.{exchange, blank, valid_setup, span_reply}
use Rattle.votes.specs.Promise.{AllBut, none, good, faulty, Honest}
use Rattle.votes.specs.Promise.{Trusted as VotesTrusted}
use Rattle.votes.proofs.Laws.{span_given_lem}
use Rattle.world.specs.declared.actions.Input.{Input}
use Rattle.world.specs.declared.actions.Input.TheVariants as input
use Rattle.world.specs.declared.actions.Action.{Action}
use Rattle.world.specs.declared.actions.Action.TheVariants as action
use Rattle.world.specs.declared.actions.Reply.{Reply}
use Rattle.world.specs.declared.actions.Reply.TheVariants as reply
use Rattle.world.specs.declared.machine.Machine.{Machine}
use Rattle.world.specs.Step.{WorldView, valid, made, start, never, nobody, moment_of, machine_of, machine_after, spanned, reply_of, step, run}
use Rattle.world.specs.Promise.{Truthful, Noted, Given, Trusted, SpanTrue, Reads, SpansHold, Reached}
use Rattle.world.proofs.Changes.{Change, same, asks, answered, looks, changes}
use Rattle.world.proofs.Keeps.{Past, SoundMachine, sound_later, change_sound, change_noted}

-- in every world the true time is in range, and every machine is sound
pub record Sound (w : WorldView) : Type 0 where
  pub time : w.now ≤ highest
  pub machines : (k : ℕ) → k < length w.machines → SoundMachine w.now (machine_of w k)

-- ONE ACTION

passed : WorldView → ℕ → WorldView
passed w by = record { now = w.now + by; machines = w.machines }

module _ (w : WorldView) (j clock : ℕ) (i : Input) where
  taken : WorldView
  taken = record { now = w.now; machines = set w.machines j (machine_after (machine_of w j) w.now clock i) }

  taken_same : j < length w.machines → machine_of taken j ≡ machine_after (machine_of w j) w.now clock i
  unfolding taken
  taken_same h = get_or-set_same w.machines j (machine_after (machine_of w j) w.now clock i) nobody h

  taken_other : (k : ℕ) → (k ≡ j → ⊥) → machine_of taken k ≡ machine_of w k
  unfolding taken
  taken_other k n = get_or-set_other w.machines j k (machine_after (machine_of w j) w.now clock i) nobody n

  -- what holds of one machine before and is kept by a change holds after
  taken_keeps : (P : Machine → Type 0) (k : ℕ) → j < length w.machines → P (machine_of w k) → (k ≡ j → P (machine_after (machine_of w k) w.now clock i)) → P (machine_of taken k)
  taken_keeps P k h p f =
      elim (cases_eq k j) [
        | inl e ↦ subst (λ x. P (machine_of taken x)) (sym e) (subst P (sym (taken_same h)) (subst (λ x. P (machine_after (machine_of w x) w.now clock i)) e (f e)))
        | inr n ↦ subst P (sym (taken_other k n)) p
      ]

  taken_length : length taken.machines ≡ length w.machines
  unfolding taken
  taken_length = simp length-set

passed_sound : (w : WorldView) (by : ℕ) → Sound w → w.now + by ≤ highest → Sound (passed w by)
unfolding passed
passed_sound w by s h = record { time = h; machines = λ k l. sound_later w.now (w.now + by) (machine_of w k) (omega arith) (s.machines k l) }

taken_sound : (w : WorldView) (j clock : ℕ) (i : Input) → Sound w → j < length w.machines → Sound (taken w j clock i)
unfolding taken
taken_sound w j clock i s h =
    record {
      time = s.time;
      machines = λ k l.
          (let m : k < length w.machines = (let e = taken_length w j clock i in omega arith) in
          taken_keeps w j clock i (SoundMachine w.now) k h (s.machines k m) (λ e. change_sound (machine_of w k) w.now clock (s.machines k m) (changes (machine_of w k) w.now clock i)));
    }

pub step_sound : (w : WorldView) (a : Action) → Sound w → Sound (step w a)
unfolding passed taken
step_sound w (action.Pass by) s =
    cond_both (leb (w.now + by) highest) (passed w by) w Sound (λ e. passed_sound w by s (leb-true (w.now + by) highest e)) (λ _. s)
step_sound w (action.Input j clock i) s =
    cond_both (ltb j (length w.machines)) (taken w j clock i) w Sound (λ e. taken_sound w j clock i s (ltb-true j (length w.machines) e)) (λ _. s)

step_length : (w : WorldView) (a : Action) → length (step w a).machines ≡ length w.machines
unfolding passed taken
step_length w (action.Pass by) = cond_both (leb (w.now + by) highest) (passed w by) w (λ x. length x.machines ≡ length w.machines) (λ e. refl) (λ _. refl)
step_length w (action.Input j clock i) =
    cond_both (ltb j (length w.machines)) (taken w j clock i) w (λ x. length x.machines ≡ length w.machines) (λ e. taken_length w j clock i) (λ _. refl)

-- a machine's rate stays
rate_after : (m : Machine) (time clock : ℕ) (i : Input) → (machine_after m time clock i).votes.rate ≡ m.votes.rate
rate_after m time clock i = kept (changes m time clock i)
  where
    kept : {n : Machine} → Change m time clock n → n.votes.rate ≡ m.votes.rate
    kept same = refl
    kept (asks s number h) = refl
    kept (answered s a sp h e) = refl
    kept looks = refl

-- ONE MACHINE'S CLOCK, over a list of actions
module _ (k : ℕ) (c : ℕ → ℕ) where
  -- what is known of a machine whose readings are those of the clock
  pub record Follows (rate : ℕ) (w : WorldView) : Type 0 where
    pub sound : Sound w
    pub there : k < length w.machines
    pub rates : (machine_of w k).votes.rate ≡ rate
    pub noted : Noted c (machine_of w k)

  follows_pass : (rate : ℕ) (w : WorldView) (by : ℕ) → Follows rate w → w.now + by ≤ highest → Follows rate (passed w by)
  unfolding passed
  follows_pass rate w by f h =
      record { sound = passed_sound w by f.sound h; there = f.there; rates = f.rates; noted = f.noted }

  follows_take : (rate : ℕ) (w : WorldView) (j clock : ℕ) (i : Input) → Follows rate w → (j ≡ k → clock ≡ c w.now) → j < length w.machines → Follows rate (taken w j clock i)
  follows_take rate w j clock i f reads h =
      record {
        sound = taken_sound w j clock i f.sound h;
        there = (let e = taken_length w j clock i in let t = f.there in omega arith);
        rates = taken_keeps w j clock i (λ m. m.votes.rate ≡ rate) k h f.rates (λ e. rate_after (machine_of w k) w.now clock i ∙ f.rates);
        noted = taken_keeps w j clock i (Noted c) k h f.noted (λ e. change_noted c (machine_of w k) w.now clock (f.sound.machines k f.there) (reads (sym e)) f.noted (changes (machine_of w k) w.now clock i));
      }

  follows_run : (rate : ℕ) (w : WorldView) (actions : List Action) → Follows rate w → Reads k c w actions → Follows rate (run w actions)
  unfolding passed taken
  follows_run rate w [] f r = f
  follows_run rate w (action.Pass by ∷ rest) f r =
      follows_run rate (step w (action.Pass by)) rest
      (cond_both (leb (w.now + by) highest) (passed w by) w (Follows rate) (λ e. follows_pass rate w by f (leb-true (w.now + by) highest e)) (λ _. f)) r
  follows_run rate w (action.Input j clock i ∷ rest) f r =
      follows_run rate (step w (action.Input j clock i)) rest
      (cond_both (ltb j (length w.machines)) (taken w j clock i) w (Follows rate) (λ e. follows_take rate w j clock i f r.0 (ltb-true j (length w.machines) e)) (λ _. f)) r.1

pub run_sound : (w : WorldView) (actions : List Action) → Sound w → Sound (run w actions)
run_sound w [] s = s
run_sound w (a ∷ rest) s = run_sound (step w a) rest (step_sound w a s)

-- THE BEGINNING

get_or-same : {A : Type 0} (n i : ℕ) (x : A) → get_or (replicate n x) i x ≡ x
get_or-same zero i x = refl
get_or-same (suc n) zero x = refl
get_or-same (suc n) (suc i) x = get_or-same n i x

made_sound : (s : Setup) → valid_setup s ≡ true → SoundMachine 0 (made s)
made_sound s e =
    let p = and_parts (leb s.servers 16 && ltb (2 * s.faulty) s.servers) (leb s.rate 1000) e in
    let q = and_parts (leb s.servers 16) (ltb (2 * s.faulty) s.servers) p.0 in
    record {
      looked = omega arith;
      rate = leb-true s.rate 1000 p.1;
      minority = ltb-true (2 * s.faulty) s.servers q.1;
      exchanges = leb-true s.servers 16 q.0;
      moments = leb-true s.servers 16 q.0;
      past = λ i. subst (Past 0) (sym (get_or-same 16 i never)) (record { asked = omega arith; begun = omega arith; answered = omega arith });
    }

made_noted : (s : Setup) (c : ℕ → ℕ) → Noted c (made s)
made_noted s c =
    let b : (i : ℕ) → get_or (replicate 16 blank) i blank ≡ blank = λ i. get_or-same 16 i blank in
    record {
      latest = omega arith;
      asks = λ i a e. absurd (let q = ap (λ (x : Exchange). x.ask) (b i) in let z : ◌≡◌ {A = ℕ} 0 1 = cc in omega arith);
      begun = λ i a e. absurd (let q = ap (λ (x : Exchange). x.known) (b i) in let z : ◌≡◌ {A = ℕ} 0 1 = cc in omega arith);
      answered = λ i a e. absurd (let q = ap (λ (x : Exchange). x.known) (b i) in let z : ◌≡◌ {A = ℕ} 0 1 = cc in omega arith);
    }

empty : Setup
empty = record { servers = 0; faulty = 0; rate = 0; first = 0 }

-- of setups that are all in range each is
nth_valid : (ss : List Setup) (k : ℕ) → list_all valid_setup ss ≡ true → k < length ss → valid_setup (get_or ss k empty) ≡ true
nth_valid ss k e h =
    elim (cases_Bool (valid_setup (get_or ss k empty))) [
      | inl t ↦ t
      | inr f ↦ absurd (both_ways (list_all valid_setup ss) (list_all_at valid_setup ss k empty h f) e)
    ]

module _ (ss : List Setup) (v : valid ss ≡ true) where
  all_valid_lem : list_all valid_setup ss ≡ true
  all_valid_lem = (and_parts (leb 1 (length ss) && leb (length ss) 8) (list_all valid_setup ss) v).1

  start_machine : (k : ℕ) → k < length ss → machine_of (start ss) k ≡ made (get_or ss k empty)
  start_machine k h = get_or-map made ss k empty nobody h

  within : (k : ℕ) → k < length (map made ss) → k < length ss
  within k h = let e = length-map ss made in omega arith

  pub start_sound : Sound (start ss)
  start_sound =
      record {
        time = omega arith;
        machines = λ k h.
            (let l = within k h in
            subst (SoundMachine 0) (sym (start_machine k l)) (made_sound (get_or ss k empty) (nth_valid ss k all_valid_lem l)));
      }

  start_follows : (k : ℕ) (c : ℕ → ℕ) → k < length ss → Follows k c (machine_of (start ss) k).votes.rate (start ss)
  start_follows k c h =
      record {
        sound = start_sound;
        there = (let e = length-map ss made in omega arith);
        rates = refl;
        noted = subst (Noted c) (sym (start_machine k h)) (made_noted (get_or ss k empty) c);
      }

pub reached_sound : (w : WorldView) → Reached w → Sound w
reached_sound w r = subst Sound (sym r.leads) (run_sound (start r.setups) r.actions (start_sound r.setups r.made))

-- THE PROMISE

-- a server that is truthful, for a machine that noted what its clock showed, is honest
module _ (c : ℕ → ℕ) (time : ℕ) (m : Machine) (ok : SoundMachine time m) (n : Noted c m) where
  honest : (i : ℕ) → Truthful m i → Honest c 0 time (exchange m.votes i)
  honest i t =
      record {
        answer = t.answer;
        known = t.known;
        asked = (moment_of m i).begun;
        held = t.held;
        answered = (moment_of m i).answered;
        started = omega arith;
        early = t.early;
        late = t.late;
        past = (ok.past i).answered;
        asked_reads = sym (n.begun i t.answer t.known);
        answered_reads = sym (n.answered i t.answer t.known);
        holds = t.holds;
      }

  one_more : (a : ℕ) → a < length m.votes.exchanges → drop a m.votes.exchanges ≡ exchange m.votes a ∷ drop (a + 1) m.votes.exchanges
  one_more a h =
      drop-cons m.votes.exchanges a blank h ∙ ap (λ x. exchange m.votes a ∷ drop x m.votes.exchanges) (sym (add-one a))

  few : (f a l : ℕ) → a + l ≤ length m.votes.exchanges → AllBut (Truthful m) f (range_with_len a l) → AllBut (Honest c 0 time) f (take l (drop a m.votes.exchanges))
  few f a zero h none = none
  few f a (suc l) h (good t rest) =
      subst (λ x. AllBut (Honest c 0 time) f (take (suc l) x)) (sym (one_more a (omega arith))) (good (honest a t) (few f (a + 1) l (omega arith) rest))
  few (suc f) a (suc l) h (faulty rest) =
      subst (λ x. AllBut (Honest c 0 time) (suc f) (take (suc l) x)) (sym (one_more a (omega arith))) (faulty (few f (a + 1) l (omega arith) rest))

-- the reply of a machine whose votes give a span
spanned_given : (r : Result Span Refusal) (s : Span) (t : ℕ) → r ≡ Ok s → Holds s t → Given (spanned r) t
spanned_given (Ok x) s t e h = let z : x ≡ s = cc in subst (λ y. Holds y t) (sym z) h
spanned_given (Err e) s t p h = absurd (let z : ◌≡◌ {A = ℕ} 0 1 = cc in omega arith)

span_at : (w : WorldView) (k clock : ℕ) (c : ℕ → ℕ) → Sound w → Trusted c w k clock → Given (reply_of w (action.Input k clock input.Span)) w.now
span_at w k clock c s t =
    let m = machine_of w k in
    let ok = s.machines k t.there in
    let on = t.runs.onward (machine_of w k).looked w.now (omega arith) ok.looked in
    let order : (machine_of w k).votes.latest ≤ clock = (let l = t.noted.latest in let e = t.reads in omega arith) in
    let trust : VotesTrusted (machine_of w k).votes clock c 0 w.now =
    record {
      runs = t.runs;
      reads = t.reads;
      below = s.time;
      servers = few c w.now (machine_of w k) ok t.noted (machine_of w k).votes.faulty 0 (machine_of w k).votes.servers (let r = ok.exchanges in omega arith) t.servers;
    } in
    let g = span_given_lem (machine_of w k).votes clock ok.rate ok.minority ok.exchanges order c 0 w.now trust in
    subst (λ r. Given r w.now) (sym (cond-true (ltb k (length w.machines)) _ _ (lt-ltb k (length w.machines) t.there)))
    (spanned_given (span_reply (machine_of w k).votes clock) g.0 w.now g.1 g.2)

pub span_true : (w : WorldView) (a : Action) → Sound w → SpanTrue w a (reply_of w a)
span_true w a s k clock e c t = subst (λ x. Given (reply_of w x) w.now) (sym e) (span_at w k clock c s t)

pub spans_hold_lem : SpansHold
spans_hold_lem ss v actions k clock c h runs reads now few =
    let f = follows_run k c (machine_of (start ss) k).votes.rate (start ss) actions (start_follows ss v k c h) reads in
    span_at (run (start ss) actions) k clock c f.sound
    (record { there = f.there; runs = subst (λ r. RunsFrom r 0 c) (sym f.rates) runs; noted = f.noted; reads = now; servers = few })

-- A WORLD THAT SOME LIST OF ACTIONS LED TO

pub reached_start : (ss : List Setup) (w : WorldView) → valid ss ≡ true → w ≡ start ss → Reached w
reached_start ss w v e = record { setups = ss; actions = []; made = v; leads = e }

pub reached_more : (v w : WorldView) (a : Action) → w ≡ step v a → Reached v → Reached w
reached_more v w a e r =
    record {
      setups = r.setups;
      actions = r.actions ++ (a ∷ []);
      made = r.made;
      leads = e ∙ (ap (λ x. step x a) r.leads ∙ sym (fold-append step (start r.setups) r.actions (a ∷ [])));
    }

given_prop : (r : Result Reply Refusal) (t : ℕ) → IsProp (Given r t)
given_prop (Ok reply.Passed) t = hlevel props
given_prop (Ok (reply.Asked n)) t = hlevel props
given_prop (Ok reply.Taken) t = hlevel props
given_prop (Ok (reply.Span s)) t = hlevel props
given_prop (Err e) t = hlevel props

pub reached_true : (w : WorldView) (a : Action) (r : Result Reply Refusal) → ∥ Reached w ∥₁ → r ≡ reply_of w a → SpanTrue w a r
reached_true w a r reached e k clock p c t =
    ∥∥₁_elim reached (given_prop r w.now) (λ x. subst (λ y. Given y w.now) (sym e) (span_true w a (reached_sound w x) k clock p c t))
