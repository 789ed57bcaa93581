-- What a call of a Rust function comes to: it returns, or it panics at a place of its text.
pub data Place : Type 0 where
  -- frame_reader.rs: `len - 2`; `buf[0]` and `buf[..self.len]`
  reader_len reader_slice : Place
  -- wire.rs: `unwrap!(Vec::from_slice(data))`
  option_long : Place
  -- option_fsm.rs, handle and open: `assert!(self.state == State::Closed)`; `pkt[2] = ..`; `unreachable!()`
  fsm_open echo_code not_closed : Place
  -- option_fsm.rs, own and received options: `pkt[3]`; `panic!("too short")`; `parse_options(..).unwrap()`; `panic!(".. too many options")`
  request_id packet_short options_cut request_many own_many : Place
  -- pap.rs: the two asserts of new; the one of open; `&mut pkt[..len + 2]`
  name_long password_long pap_open pap_slice : Place
  -- ppp/mod.rs, received: `pkt[0..2]`; `todo!()`
  received_slice received_ip : Place
  -- pppos/mod.rs, poll: `&mut rx_buf[range]`, of a range that runs backwards, and of one that ends behind the buffer
  poll_order poll_range : Place
  -- pppos/mod.rs, poll: `pkt[0..2]`; `assert!(len <= buf.len())`; `w.start().unwrap()` and the two behind it
  poll_slice reply_long reply_full : Place

pub data Run (A : Type 0) : Type 0 where
  returns : A → Run A
  panics : Place → Run A

-- one statement, and the next with what it gave: a `do` block reads so
infixl 10 ◌>>=◌
abbrev pub ◌>>=◌ : {A B : Type 0} → Run A → (A → Run B) → Run B
◌>>=◌ (returns a) next = next a
◌>>=◌ (panics p) next = panics p

-- Result<S, E>, where the error says nothing more
pub data Result (A : Type 0) : Type 0 where
  ok : A → Result A
  err : Result A

-- Result::unwrap
abbrev pub unwrap : {A : Type 0} → Place → Result A → Run A
unwrap p (ok a) = returns a
unwrap p err = panics p
