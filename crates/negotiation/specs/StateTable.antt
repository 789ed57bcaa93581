-- Document 01's table of states, from its words alone: what a packet does to the state, and whether an own request follows.
use Rattle.std.specs.Prelude.{Bool, true, false, List, [], ◌∷◌}
use Rattle.negotiation.specs.declared.states.State.{State}
use Rattle.negotiation.specs.declared.states.State.TheVariants.{Closed, ReqSent, AckReceived, AckSent, Opened}

-- a ConfigureReq that gets an Ack, one that gets a Nack or a Rej, a ConfigureAck, a ConfigureNack or ConfigureRej, a TerminateReq
pub data Event : Type 0 where
  req_acked : Event
  req_not_acked : Event
  ack : Event
  nack_or_rej : Event
  terminate : Event

pub record Transition : Type 0 where
  pub event : Event
  pub from : State
  pub to : State
  pub asks : Bool

abbrev pub row : Event → State → State → Bool → Transition
row e s t asks = record { event = e; from = s; to = t; asks = asks }

-- Closed answers anything with TerminateAck, and stays
abbrev pub table : List Transition
table =
    -- Ack takes ReqSent to AckSent, AckReceived to Opened, Opened to AckSent; from Opened an own request follows
    row req_acked Closed Closed false
    ∷ row req_acked ReqSent AckSent false
    ∷ row req_acked AckReceived Opened false
    ∷ row req_acked AckSent AckSent false
    ∷ row req_acked Opened AckSent true
    -- otherwise AckSent and Opened go to ReqSent, the rest stay; from Opened an own request follows
    ∷ row req_not_acked Closed Closed false
    ∷ row req_not_acked ReqSent ReqSent false
    ∷ row req_not_acked AckReceived AckReceived false
    ∷ row req_not_acked AckSent ReqSent false
    ∷ row req_not_acked Opened ReqSent true
    -- ReqSent to AckReceived, AckSent to Opened; the other two to ReqSent with a request
    ∷ row ack Closed Closed false
    ∷ row ack ReqSent AckReceived false
    ∷ row ack AckReceived ReqSent true
    ∷ row ack AckSent Opened false
    ∷ row ack Opened ReqSent true
    -- AckSent stays, the rest go to ReqSent, a request follows
    ∷ row nack_or_rej Closed Closed false
    ∷ row nack_or_rej ReqSent ReqSent true
    ∷ row nack_or_rej AckReceived ReqSent true
    ∷ row nack_or_rej AckSent AckSent true
    ∷ row nack_or_rej Opened ReqSent true
    -- Opened to Closed, others to ReqSent
    ∷ row terminate Closed Closed false
    ∷ row terminate ReqSent ReqSent false
    ∷ row terminate AckReceived ReqSent false
    ∷ row terminate AckSent ReqSent false
    ∷ row terminate Opened Closed false
    ∷ []
