-- Packets of wire.rs are the bytes of ours.
-- Assumes nothing.
use mathlib.Core.Path.{◌≡◌, refl}
use mathlib.Core.List.{List, [], ◌∷◌, ◌++◌, append_assoc, append-nil}
use Prim.Native.Nat.{ℕ, zero, suc, ◌+◌, ◌/◌, ◌%◌, ◌^◌, ◌≤◌, ◌<◌}
use native.Mathlib.Nat.{mod-eq_of_lt, mod-lt}
use native.Mathlib.Omega.{arith}
use lib.Dec.{lit<}
use lib.ListN.{length, length-append}
use Rattle.laws.specs.Be.{be_bytes}
use Rattle.laws.specs.Each.{Bytes}
use Rattle.laws.proofs.Be.{length_be}
use Rattle.laws.proofs.Each.{each_append}
use Rattle.options.specs.Wire.{packet_of}
use Rattle.options.specs.Options.{opt_bytes}
use Rattle.original.specs.Wire.{ProtocolType, protocol_number, OptionVal, emit_option, options_len, emit_options, PPPPayload, ppp_len, emit_ppp, Payload, payload_len, emit_payload, packet_len, emit, Raw, PPP, RawData, Credentials, Options, Packet}
use Rattle.original.proofs.Frames.{Carries}

-- ---- bytes

pub bytes_be : (k v : ℕ) → Bytes (be_bytes k v)
unfolding be_bytes
bytes_be zero v = tt
bytes_be (suc k) v = (mod-lt (v / 256 ^ k) {m = 256} (lit< tt), bytes_be k v)

pub bytes_append : (a b : List ℕ) → Bytes a → Bytes b → Bytes (a ++ b)
bytes_append = each_append (λ x. x < 256)

-- ---- options

-- options of the original are these bytes
pub record Lists (os : List OptionVal) (l : List ℕ) : Type 0 where
  pub is : emit_options os ≡ l
  pub len : options_len os ≡ length l
  pub bytes : Bytes l

pub lists_none : Lists [] []
unfolding emit_options options_len
lists_none = record { is = refl; len = refl; bytes = tt }

emit-append : (os ps : List OptionVal) → emit_options (os ++ ps) ≡ emit_options os ++ emit_options ps
unfolding emit_options
emit-append [] ps = refl
emit-append (o ∷ os) ps = rw (emit-append os ps, append_assoc) refl

len_append : (os ps : List OptionVal) → options_len (os ++ ps) ≡ options_len os + options_len ps
unfolding options_len
len_append [] ps = omega arith
len_append (o ∷ os) ps = rw (len_append os ps) (omega arith)

-- one more
pub lists_more : {os : List OptionVal} {l : List ℕ} (c : ℕ) (d : List ℕ) → Lists os l → c < 256 → Bytes d → length d ≤ 4
    → Lists (os ++ (record { code = c; value = d } ∷ [])) (l ++ opt_bytes c d)
unfolding emit_options options_len
lists_more {os} {l} c d h small bytes short =
    let o : OptionVal = record { code = c; value = d } in
    let m : length d % 256 ≡ length d = mod-eq_of_lt (omega arith) in
    record {
      is = rw (emit-append os (o ∷ []), h.is, m, append-nil d) refl;
      len = rw (len_append os (o ∷ []), h.len, length-append l (opt_bytes c d)) (omega arith);
      bytes = bytes_append l (opt_bytes c d) h.bytes (small, (omega arith, bytes));
    }

-- ---- a packet fills its buffer

options_fill : (os : List OptionVal) → length (emit_options os) ≡ options_len os
unfolding emit_options options_len
options_fill [] = refl
options_fill (o ∷ os) = rw (length-append (emit_option o) (emit_options os), options_fill os) (omega arith)

ppp_fills : (p : PPPPayload) → length (emit_ppp p) ≡ ppp_len p
ppp_fills (RawData bs) = refl
ppp_fills (Credentials user pass) = rw length-append (omega arith)
ppp_fills (Options os) = options_fill os

payload_fills : (p : Payload) → length (emit_payload p) ≡ payload_len p
payload_fills (Raw bs) = refl
payload_fills (PPP c i p) = rw (length-append (be_bytes 2 (ppp_len p % 65536 + 4)) (emit_ppp p), length_be, ppp_fills p) (omega arith)

-- what is emitted is as long as the buffer that it is emitted into
pub emit_fills : (q : Packet) → length (emit q) ≡ packet_len q
emit_fills q = rw (length-append (be_bytes 2 (protocol_number q.proto)) (emit_payload q.payload), length_be, payload_fills q.payload) refl

-- ---- packets with a header

pub carries_ppp : (t : ProtocolType) (n c i : ℕ) (p : PPPPayload) (d : List ℕ) → protocol_number t ≡ n → c < 256 → i < 256
    → emit_ppp p ≡ d → ppp_len p ≡ length d → Bytes d → length d < 65536 → Carries (record { proto = t; payload = PPP c i p }) (packet_of n c i d)
carries_ppp t n c i p d e hc hi is len bytes short =
    let m : length d % 65536 ≡ length d = mod-eq_of_lt short in
    let k = be_bytes 2 (length d + 4) in
    record {
      is = rw (e, is, len, m) refl;
      len = rw (len, length-append (be_bytes 2 n) (c ∷ i ∷ (k ++ d)), length-append k d, length_be 2 n, length_be 2 (length d + 4)) (omega arith);
      bytes = bytes_append (be_bytes 2 n) (c ∷ i ∷ (k ++ d)) (bytes_be 2 n) (hc, (hi, bytes_append k d (bytes_be 2 (length d + 4)) bytes));
    }
