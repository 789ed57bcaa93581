-- The view hides nothing but the credential bytes past their lengths.
-- Assumes nothing.
use mathlib.Core.Path.{◌≡◌, refl, ap, ap₂, sym, ◌∙◌}
use mathlib.Core.List.{List, ◌++◌}
use Prim.Native.Nat.{ℕ, ◌+◌}
use native.Mathlib.Omega.{arith}
use lib.ListN.{length, take, drop, length-take, length-drop}
use lib.Seq.{take-add}
use Rattle.framing.specs.declared.frame_reader.State as reading
use Rattle.framing.specs.declared.frame_reader.FrameReader as reader
use Rattle.framing.specs.declared.frame_reader.Reading.TheVariants.{Crate}
use Rattle.negotiation.specs.Credentials.{name_len, password_len, name_of, password_of}
use Rattle.negotiation.proofs.CredentialLaws.{sum_fits}
use Rattle.negotiation.specs.declared.states.State as fsm
use Rattle.negotiation.specs.declared.option_fsm.OptionFsm.{OptionFsm}
use Rattle.options.specs.declared.lcp.AuthType as auth
use Rattle.options.specs.declared.lcp.Lcp.{Lcp}
use Rattle.options.specs.declared.ipv4cp.IpOption as ip
use Rattle.options.specs.declared.ipv4cp.Ipv4cp.{Ipv4cp}
use Rattle.negotiation.specs.declared.pap.PapState as pap_state
use Rattle.negotiation.specs.declared.credentials.Credentials.{Credentials}
use Rattle.phases.specs.declared.ppp.Phase as phase
use Rattle.link.specs.declared.pppos.PPPoS.{PPPoS}
use Rattle.original.specs.Framing as framing
use Rattle.original.specs.Fsm as automaton
use Rattle.original.specs.Protocols as protocols
use Rattle.original.specs.Ppp as ppp
use Rattle.original.specs.Pppos as theirs
use Rattle.original.specs.View.{view_reading, view_reader, view_state, view_auth, view_pap_state, view_phase, view_lcp_fsm, view_ipv4cp_fsm, view_link}
use Rattle.original.specs.Domain.{CredentialsFit}
use Rattle.original.specs.Alike.{Alike}

-- ---- the way back, for each part

abbrev reading_back : framing.ReaderState → reading.State
reading_back framing.Start = reading.TheVariants.Start
reading_back framing.Address = reading.TheVariants.Address
reading_back framing.Data = reading.TheVariants.Data
reading_back framing.Complete = reading.TheVariants.Complete

reading_back_lem : (x : reading.State) → reading_back (view_reading x) ≡ x
reading_back_lem reading.TheVariants.Start = refl
reading_back_lem reading.TheVariants.Address = refl
reading_back_lem reading.TheVariants.Data = refl
reading_back_lem reading.TheVariants.Complete = refl

abbrev state_back : automaton.State → fsm.State
state_back automaton.Closed = fsm.TheVariants.Closed
state_back automaton.ReqSent = fsm.TheVariants.ReqSent
state_back automaton.AckReceived = fsm.TheVariants.AckReceived
state_back automaton.AckSent = fsm.TheVariants.AckSent
state_back automaton.Opened = fsm.TheVariants.Opened

state_back_lem : (x : fsm.State) → state_back (view_state x) ≡ x
state_back_lem fsm.TheVariants.Closed = refl
state_back_lem fsm.TheVariants.ReqSent = refl
state_back_lem fsm.TheVariants.AckReceived = refl
state_back_lem fsm.TheVariants.AckSent = refl
state_back_lem fsm.TheVariants.Opened = refl

abbrev auth_back : protocols.AuthType → auth.AuthType
auth_back protocols.AuthNone = auth.TheVariants.None
auth_back protocols.AuthPap = auth.TheVariants.Pap

auth_back_lem : (x : auth.AuthType) → auth_back (view_auth x) ≡ x
auth_back_lem auth.TheVariants.None = refl
auth_back_lem auth.TheVariants.Pap = refl

abbrev pap_back : protocols.PapState → pap_state.PapState
pap_back protocols.PapClosed = pap_state.TheVariants.Closed
pap_back protocols.PapReqSent = pap_state.TheVariants.ReqSent
pap_back protocols.PapOpened = pap_state.TheVariants.Opened

pap_back_lem : (x : pap_state.PapState) → pap_back (view_pap_state x) ≡ x
pap_back_lem pap_state.TheVariants.Closed = refl
pap_back_lem pap_state.TheVariants.ReqSent = refl
pap_back_lem pap_state.TheVariants.Opened = refl

abbrev phase_back : ppp.Phase → phase.Phase
phase_back ppp.Dead = phase.TheVariants.Dead
phase_back ppp.Establish = phase.TheVariants.Establish
phase_back ppp.Auth = phase.TheVariants.Auth
phase_back ppp.Network = phase.TheVariants.Network
phase_back ppp.Open = phase.TheVariants.Open

phase_back_lem : (x : phase.Phase) → phase_back (view_phase x) ≡ x
phase_back_lem phase.TheVariants.Dead = refl
phase_back_lem phase.TheVariants.Establish = refl
phase_back_lem phase.TheVariants.Auth = refl
phase_back_lem phase.TheVariants.Network = refl
phase_back_lem phase.TheVariants.Open = refl

-- ---- the records

abbrev reader_back : framing.FrameReader → reader.FrameReader
reader_back r = record { state = reading_back r.state; escape = r.escape; len = r.len; reading = Crate }

reader_back_lem : (x : reader.FrameReader) → x.reading ≡ Crate → reader_back (view_reader x) ≡ x
reader_back_lem x e = rw (reading_back_lem x.state, ← e) refl

abbrev lcp_back : automaton.OptionFsm protocols.Lcp → OptionFsm Lcp
lcp_back f =
    record {
      id = f.id;
      state = state_back f.state;
      proto = record { auth = auth_back f.proto.auth; asyncmap_remote = f.proto.asyncmap_remote; asyncmap = f.proto.asyncmap; asyncmap_rej = f.proto.asyncmap_rej };
    }

lcp_back_lem : (x : OptionFsm Lcp) → lcp_back (view_lcp_fsm x) ≡ x
lcp_back_lem x = rw (state_back_lem x.state, auth_back_lem x.proto.auth) refl

abbrev ip_back : protocols.IpOption → ip.IpOption
ip_back o = record { address = o.address; is_rejected = o.is_rejected }

abbrev ipv4cp_back : automaton.OptionFsm protocols.Ipv4cp → OptionFsm Ipv4cp
ipv4cp_back f =
    record {
      id = f.id;
      state = state_back f.state;
      proto = record { peer_address = f.proto.peer_address; address = ip_back f.proto.address; dns_server_1 = ip_back f.proto.dns_server1; dns_server_2 = ip_back f.proto.dns_server2 };
    }

ipv4cp_back_lem : (x : OptionFsm Ipv4cp) → ipv4cp_back (view_ipv4cp_fsm x) ≡ x
ipv4cp_back_lem x = rw (state_back_lem x.state) refl

-- ---- credentials

module _ (c : Credentials) (fit : CredentialsFit c) where
  lengths : (name_len c ≡ c.username_len) × (password_len c ≡ c.password_len)
  lengths =
      let e = sum_fits c.username_len c.password_len fit.fits in
      (rw e refl, rw e refl)

  name_length : length (name_of c) ≡ c.username_len
  name_length = omega (arith, length-take (name_len c) c.bytes, lengths.0, fit.array, fit.fits)

  password_length : length (password_of c) ≡ c.password_len
  password_length = omega (arith, length-take (password_len c) (drop (name_len c) c.bytes), length-drop (name_len c) c.bytes, lengths.0, lengths.1, fit.array, fit.fits)

  joined : take (c.username_len + c.password_len) c.bytes ≡ name_of c ++ password_of c
  joined = take-add c.username_len c.password_len c.bytes ∙ rw (lengths.0, lengths.1) refl

-- ---- two links with one view

pub equal_views : (a b : PPPoS) → a.frame_reader.reading ≡ Crate → b.frame_reader.reading ≡ Crate → CredentialsFit a.ppp.auth.credentials → CredentialsFit b.ppp.auth.credentials
    → view_link a ≡ view_link b → Alike a b
equal_views a b ra rb wa wb e =
    let name : name_of a.ppp.auth.credentials ≡ name_of b.ppp.auth.credentials = ap (λ (x : theirs.PPPoS). x.ppp.pap.username) e in
    let word : password_of a.ppp.auth.credentials ≡ password_of b.ppp.auth.credentials = ap (λ (x : theirs.PPPoS). x.ppp.pap.password) e in
    let n : a.ppp.auth.credentials.username_len ≡ b.ppp.auth.credentials.username_len = sym (name_length a.ppp.auth.credentials wa) ∙ ap length name ∙ name_length b.ppp.auth.credentials wb in
    let m : a.ppp.auth.credentials.password_len ≡ b.ppp.auth.credentials.password_len = sym (password_length a.ppp.auth.credentials wa) ∙ ap length word ∙ password_length b.ppp.auth.credentials wb in
    record {
      reader = sym (reader_back_lem a.frame_reader ra) ∙ ap (λ (x : theirs.PPPoS). reader_back x.frame_reader) e ∙ reader_back_lem b.frame_reader rb;
      phase = sym (phase_back_lem a.ppp.phase) ∙ ap (λ (x : theirs.PPPoS). phase_back x.ppp.phase) e ∙ phase_back_lem b.ppp.phase;
      opening = ap (λ (x : theirs.PPPoS). x.ppp.opening) e;
      lcp = sym (lcp_back_lem a.ppp.lcp) ∙ ap (λ (x : theirs.PPPoS). lcp_back x.ppp.lcp) e ∙ lcp_back_lem b.ppp.lcp;
      ipv4cp = sym (ipv4cp_back_lem a.ppp.ipv4cp) ∙ ap (λ (x : theirs.PPPoS). ipv4cp_back x.ppp.ipv4cp) e ∙ ipv4cp_back_lem b.ppp.ipv4cp;
      pap_state = sym (pap_back_lem a.ppp.auth.pap.state) ∙ ap (λ (x : theirs.PPPoS). pap_back x.ppp.pap.state) e ∙ pap_back_lem b.ppp.auth.pap.state;
      pap_id = ap (λ (x : theirs.PPPoS). x.ppp.pap.id) e;
      name_length = n;
      password_length = m;
      credentials = joined a.ppp.auth.credentials wa ∙ ap₂ (λ (x y : List ℕ). x ++ y) name word ∙ sym (joined b.ppp.auth.credentials wb) ∙ rw (n, m) refl;
    }
