-- A machine's exchanges with its time servers, and what each call answers and leaves behind.
use Rattle.std.specs.Prelude.{◌≡◌, ℕ, ◌+◌, ◌-◌, ◌*◌, ◌%◌, ◌<◌, ◌≤◌, Bool, true, false, cond, ◌&&◌, List, length, map, take, replicate, is_ok, Some, None, Ok, Err, Option, Result, ◌==◌, nat_le, nat_lt, slice_index_or, slice_set}
use Rattle.std.specs.Option.{ok_or, option_map, option_map_or}
use Rattle.clocks.specs.declared.growth.Answer.{Answer}
use Rattle.clocks.specs.declared.growth.Span.{Span}
use Rattle.clocks.specs.Time.{grown_to}
use Rattle.votes.specs.declared.types.Setup.{Setup}
use Rattle.votes.specs.declared.types.Ask.{Ask}
use Rattle.votes.specs.declared.types.Exchange.{Exchange}
use Rattle.votes.specs.declared.types.Refusal.{Refusal}
use Rattle.votes.specs.declared.types.Refusal.TheVariants.{Invalid, WrongNumber, NoSpan}
use Rattle.votes.specs.Counts.{lowest, highest}

-- each refusal's number
abbrev pub number_of : Refusal → ℕ
number_of Invalid = 1
number_of WrongNumber = 2
number_of NoSpan = 3

-- what three numbers ask for, with asks that are numbered from 1
abbrev pub setup_of : (servers faulty rate : ℕ) → Setup
setup_of servers faulty rate = record { servers = servers; faulty = faulty; rate = rate; first = 1 }

-- at most 16 time servers, twice as many as may be faulty below that, and a clock that is off by at most 1,000 parts in a million
abbrev pub valid_setup : Setup → Bool
valid_setup s = nat_le s.servers 16 && nat_lt (2 * s.faulty) s.servers && nat_le s.rate 1000

-- rate: how far the clock may be off; servers: how many time servers count, the first of the exchanges; faulty: how many of them may be
-- faulty; first: the number of each server's first ask; latest: the highest clock reading taken
pub record View : Type 0 where
  pub rate : ℕ
  pub servers : ℕ
  pub faulty : ℕ
  pub first : ℕ
  pub latest : ℕ
  pub exchanges : List Exchange

-- the numbers of a machine that can be made
pub record IsInRange (v : View) : Type 0 where
  pub rate : v.rate ≤ 1000
  pub few : v.servers ≤ 16
  pub minority : 2 * v.faulty < v.servers
  pub sixteen : length v.exchanges ≡ 16

-- before the first ask and answer
abbrev pub blank : Exchange
blank = record { ask = None; known = None }

abbrev pub opened : Setup → View
opened s = record { rate = s.rate; servers = s.servers; faulty = s.faulty; first = s.first; latest = 0; exchanges = replicate 16 blank }

-- a machine that was made from a setup, which is in range
abbrev pub IsOpened : Setup → View → Type 0
IsOpened s v = (valid_setup s ≡ true) × (v ≡ opened s)

abbrev pub exchange : View → ℕ → Exchange
exchange v server = slice_index_or v.exchanges server blank

-- with one server's exchange after a clock reading
abbrev pub noted : View → ℕ → Exchange → ℕ → View
noted v server e clock =
    record { rate = v.rate; servers = v.servers; faulty = v.faulty; first = v.first; latest = clock; exchanges = slice_set v.exchanges server e }

-- the server is there, and the clock reading is not below an earlier one
abbrev pub fits : View → ℕ → ℕ → Bool
fits v server clock = nat_lt server v.servers && nat_le v.latest clock

-- asks are numbered for each server by itself, and wrap
abbrev pub next_number : ℕ → Option Ask → ℕ
next_number first ask = option_map_or (λ a. (a.number + 1) % 4294967296) ask first

-- ASK: the number of the ask
abbrev pub ask_reply : View → ℕ → ℕ → Result ℕ Refusal
ask_reply v server clock = cond (fits v server clock) (Ok (next_number v.first (exchange v server).ask)) (Err Invalid)

abbrev pub ask_after : View → ℕ → ℕ → View
ask_after v server clock =
    cond (fits v server clock) (noted v server (record { ask = Some (record { number = next_number v.first (exchange v server).ask; clock = clock }); known = (exchange v server).known }) clock) v

-- the number of a server's last ask, if it is there and was asked
abbrev pub ask_number : Option Ask → Option ℕ
ask_number ask = option_map (λ a. a.number) ask

abbrev pub last_number : View → ℕ → Option ℕ
last_number v server = cond (nat_lt server v.servers) (ask_number (exchange v server).ask) None

-- ANSWER: taken if it has the number of the server's last ask
abbrev pub answers : ℕ → Option Ask → Bool
answers number None = false
answers number (Some a) = a.number == number

abbrev pub taken : Option Ask → Span → ℕ → Option Answer
taken ask s clock = option_map (λ a. record { asked = a.clock; answered = clock; span = s }) ask

abbrev pub answer_reply : View → ℕ → ℕ → Span → ℕ → Result (Unit {0}) Refusal
answer_reply v server number s clock =
    cond (fits v server clock && nat_le s.low s.high) (cond (answers number (exchange v server).ask) (Ok tt) (Err WrongNumber)) (Err Invalid)

abbrev pub answer_after : View → ℕ → ℕ → Span → ℕ → View
answer_after v server number s clock =
    cond (is_ok (answer_reply v server number s clock)) (noted v server (record { ask = (exchange v server).ask; known = taken (exchange v server).ask s clock }) clock) v

-- SPAN: what each server's last answer has grown to, and the machine's span out of enough of them
abbrev pub grown_answer : ℕ → ℕ → Answer → Span
grown_answer rate clock a = grown_to rate a.asked a.answered clock a.span

abbrev pub grown_exchange : ℕ → ℕ → Exchange → Option Span
grown_exchange rate clock e = option_map (grown_answer rate clock) e.known

abbrev pub spans_at : View → ℕ → List (Option Span)
spans_at v clock = take v.servers (map (grown_exchange v.rate clock) v.exchanges)

abbrev pub between : Option ℕ → Option ℕ → Option Span
between None h = None
between (Some l) None = None
between (Some l) (Some h) = Some (record { low = l; high = h })

abbrev pub span_of : ℕ → List (Option Span) → Option Span
span_of enough ss = between (lowest enough ss) (highest enough ss)

abbrev pub span_reply : View → ℕ → Result Span Refusal
span_reply v clock = cond (nat_le v.latest clock) (ok_or (span_of (v.servers - v.faulty) (spans_at v clock)) NoSpan) (Err Invalid)

abbrev pub span_after : View → ℕ → View
span_after v clock =
    cond (is_ok (span_reply v clock)) (record { rate = v.rate; servers = v.servers; faulty = v.faulty; first = v.first; latest = clock; exchanges = v.exchanges }) v
