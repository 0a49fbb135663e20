-- The next step for a connection, and its time limits.
use Rattle.std.specs.Prelude.{ℕ, ◌+◌, ◌-◌, ◌^◌, min, Bool, true, false}
use Rattle.gm_delivery.specs.declared.life.OutboundState.{OutboundState}
use Rattle.gm_delivery.specs.declared.life.OutboundState.TheVariants.{Open, Finished, Cut}
use Rattle.gm_delivery.specs.declared.life.Deed.{Deed}
use Rattle.gm_delivery.specs.declared.life.Deed.TheVariants.{Serve, Send, Linger, HangUp, LetGo}

-- this long after a time, in milliseconds of 64 bits
abbrev pub later : ℕ → ℕ → ℕ
later now long = min (now + long) (2 ^ 64 - 1)

-- how long an end takes in all, while the server goes on, and from when it stops
abbrev pub most_time : Bool → ℕ
most_time false = 30_000
most_time true = 2_000

-- the next step in this state, by whether the time is over, whether something is left to be sent, and whether the input
-- ended
abbrev pub deed_of : OutboundState → Bool → Bool → Bool → Deed
deed_of Open false true ended = Send
deed_of state over left true = LetGo
deed_of Open over false false = Serve
deed_of Finished false left false = Linger
deed_of state over left false = HangUp

-- the state of a connection that can be sent to, or can't
abbrev pub state_if : Bool → OutboundState
state_if true = Open
state_if false = Cut

-- a finished sending stays finished
abbrev pub cut_state : OutboundState → OutboundState
cut_state Open = Cut
cut_state Finished = Finished
cut_state Cut = Cut

-- the state after what was to be done: only hanging up changes it
abbrev pub state_by : Deed → OutboundState → OutboundState
state_by HangUp state = cut_state state
state_by deed state = state
