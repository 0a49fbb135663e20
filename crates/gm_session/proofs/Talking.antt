-- A session that threads go on with, and the account of a slot's connections.
use Rattle.std.proofs.Common.{◌≡◌, ℕ, ℤ, ◌+◌, ◌<◌, List, [], ◌∷◌, ◌++◌, map, length, Bool, true, false, Option, Some, None, Result, Ok, Err, refl, sym, ap, subst, ◌∙◌, arith}
use Rattle.std.specs.Prelude.{IfSome, IfErr, not, take, if◌then◌else◌}
use Rattle.std.specs.Io.KnownBytes.{WriteAppends}
use Rattle.std.specs.Result.{is_ok}
use Rattle.std.proofs.lemmas.List.{append-nil}
use Rattle.gm_feeder.specs.declared.units.Limits.{Limits}
use Rattle.gm_feeder.specs.Streams.{Stream}
use Rattle.gm_feeder.proofs.StreamLemmas.{fault_stays}
use Rattle.gm_notes.specs.declared.event.UnitFault.{UnitFault}
use Rattle.gm_notes.specs.Settings.{Settings}
use Rattle.gm_notes.specs.Steps.{Close}
use Rattle.gm_front.specs.Units.{step_of_unit, steps_of, IsFaultAt}
use Rattle.gm_front.proofs.Heads.{begins_stay}
use Rattle.gm_notes.specs.declared.event.ApplyError.{ApplyError}
use Rattle.gm_shared.specs.declared.receipt.Receipt.{Receipt}
use Rattle.gm_shared.specs.declared.tape.Entry.{Entry}
use Rattle.gm_shared.specs.Calls.{HandedIn, if_taken}
use Rattle.gm_shared.specs.Openings.{most_openings, counted}
use Rattle.gm_session.specs.declared.heard.Heard.{Heard}
use Rattle.gm_session.specs.declared.heard.Hearings.{Hearings}
use Rattle.gm_session.specs.declared.session.SessionEnd.{SessionEnd}
use Rattle.gm_session.specs.declared.session.SessionEnd.TheVariants as ends
use Rattle.gm_session.specs.declared.talk.Reading.{Reading as HowFar}
use Rattle.gm_session.specs.declared.talk.Reading.TheVariants.{Goes, Drops, Ended}
use Rattle.gm_session.specs.Hearings.{IsReadThrough, IsHeard, AreHeard, closed}
use Rattle.gm_session.specs.Sessions.{Adds, HandsIn, IsWhole, IsBroken, Reads, Steps, Ends, AsksInStep, broke, unread as unread_end, ends_whole}
use Rattle.gm_session.specs.Talks.{TalkingState, TalkState, IsTalk, IsTalking, IsTalkingBy, GoesOnSo, IsOverSo, IsKnown, IsLent, IsHanded, has_ended, FitsSocket, GoesThrough, WentThrough, unread, whole_by, hearings_with, ended_by, cut_by, is_over_by, is_dropping_by, is_reading_on, with_reading, over_by, reading_after, last_taken, without_last, Turns, Stepped, SteppedIf, StepsOn, Discards, IsOverAs}
use Rattle.gm_shared.specs.Pairings.{SideState, passed_with}
use Rattle.gm_feeder.specs.declared.source.Answer.{Answer}
use Rattle.gm_session.proofs.Handing.{Reading, adds_none, adds_then, adds_same, waits_none, reading_more, reading_over}

-- ---- all that was read

reading_of : (k : Settings) (n : ℕ) (limits : Limits) (since seen : List Entry) (t : TalkingState) → GoesOnSo k n limits since seen t → Reading k n n limits (Some t.heard) (Some []) since seen t.stream t.has_units
reading_of k n limits since seen t h = record {
  read = t.heard;
  consumes = sym (append-nil t.heard);
  limited = h.limited;
  handed = record { items = h.hands.items; begins = h.hands.begins; adds = adds_same n (steps_of k n h.hands.items None) (map (step_of_unit k n) h.hands.items) since seen (append-nil (map (step_of_unit k n) h.hands.items)) h.hands.adds };
  waits = h.waits;
}

goes_on_of : (k : Settings) (n : ℕ) (limits : Limits) (since seen : List Entry) (t : TalkingState) → Reading k n n limits (Some t.heard) (Some []) since seen t.stream t.has_units → GoesOnSo k n limits since seen t
goes_on_of k n limits since seen t r =
    let read : r.read ≡ t.heard = sym (r.consumes ∙ append-nil r.read) in
    let hands : HandsIn k n n limits r.read t.stream.pending None since seen = record {
      items = r.handed.items;
      begins = r.handed.begins;
      stands = tt;
      adds = adds_same n (map (step_of_unit k n) r.handed.items) (steps_of k n r.handed.items None) since seen (sym (append-nil (map (step_of_unit k n) r.handed.items))) r.handed.adds;
    } in
    record { limited = r.limited; hands = subst (λ (l : List ℕ). HandsIn k n n limits l t.stream.pending None since seen) read hands; waits = r.waits }

-- a piece more is there to be read
fed : (k : Settings) (n : ℕ) (limits : Limits) (read : List ℕ) (since seen : List Entry) (stream : Stream) (units : Bool) (piece : List ℕ) → Reading k n n limits (Some read) (Some []) since seen stream units
    → Reading k n n limits (Some (read ++ piece)) (Some piece) since seen stream units
fed k n limits read since seen stream units piece r =
    record { read = r.read; consumes = ap (λ l. l ++ piece) (r.consumes ∙ append-nil r.read); limited = r.limited; handed = r.handed; waits = r.waits }

pub goes_on_unread : (k : Settings) (n : ℕ) (limits : Limits) (since seen : List Entry) (t : TalkingState) → t ≡ unread t.socket limits t.answers t.last → Adds n [] since seen → GoesOnSo k n limits since seen t
goes_on_unread k n limits since seen t is none =
    subst (λ (u : TalkingState). GoesOnSo k n limits since seen u) (sym is)
    (record { limited = refl; hands = record { items = []; begins = refl; stands = tt; adds = none }; waits = λ no_unit. waits_none limits })

-- a session that is cut
over_at_rest : (k : Settings) (n : ℕ) (limits : Limits) (since seen : List Entry) (t : TalkingState) → GoesOnSo k n limits since seen t → IsOverSo k n limits since seen t.heard false
over_at_rest k n limits since seen t h = record { rest = t.stream.pending; fault = None; hands = h.hands; whole = λ bad. absurd cc }

module _ (k : Settings) (taped : Bool) (n : ℕ) (limits : Limits) (since seen : List Entry) (t : TalkingState) (h : GoesOnSo k n limits since seen t) where
  -- the session goes on
  pub goes_on_more : (now : TalkingState) (input left : Option (List ℕ)) (seen_after : List Entry)
      → Steps k taped n n t.stream t.has_units input left (Some t.heard) (Some now.heard) (Ok tt) now.has_units seen seen_after now.stream → GoesOnSo k n limits since seen_after now
  goes_on_more now input left seen_after s =
      let r = fed k n limits t.heard since seen t.stream t.has_units s.piece (reading_of k n limits since seen t h) in
      let alone : Steps k taped n n t.stream t.has_units (Some s.piece) (Some []) (Some t.heard) (Some now.heard) (Ok tt) now.has_units seen seen_after now.stream =
      record { piece = s.piece; consumes = sym (append-nil s.piece); hears = s.hears; goes_on = s.goes_on } in
      goes_on_of k n limits since seen_after now
      (subst (λ (l : List ℕ). Reading k n n limits (Some l) (Some []) since seen_after now.stream now.has_units) (sym s.hears)
      (reading_more k taped n n limits (Some (t.heard ++ s.piece)) (Some s.piece) (Some []) (Some t.heard) (Some now.heard) since seen seen_after t.stream t.has_units r n refl now.has_units now.stream alone))

  -- it is over
  pub reads_all : (end : SessionEnd) (input left : Option (List ℕ)) (after : List ℕ) (seen_after : List Entry)
      → Ends k taped n n t.stream t.has_units input left (Some t.heard) (Some after) end seen seen_after → Reads k taped n n limits (Some after) (Some []) end since seen_after
  reads_all end input left after seen_after (broke piece consumes hears b) =
      let r = fed k n limits t.heard since seen t.stream t.has_units piece (reading_of k n limits since seen t h) in
      subst (λ (l : List ℕ). Reads k taped n n limits (Some l) (Some []) end since seen_after) (sym hears)
      (reading_over k taped n n limits (Some (t.heard ++ piece)) (Some piece) (Some []) (Some t.heard) (Some after) since seen seen_after t.stream t.has_units r n refl end
      (broke piece (sym (append-nil piece)) hears b))
  reads_all end input left after seen_after (unread_end none consumes kept unshut same) =
      subst (λ (l : List ℕ). Reads k taped n n limits (Some l) (Some []) end since seen_after) (sym kept)
      (reading_over k taped n n limits (Some t.heard) (Some []) (Some []) (Some t.heard) (Some after) since seen seen_after t.stream t.has_units (reading_of k n limits since seen t h) n refl end
      (unread_end none refl kept unshut same))

  pub heard_more : (end : SessionEnd) (input left : Option (List ℕ)) (after : List ℕ) (seen_after : List Entry)
      → Ends k taped n n t.stream t.has_units input left (Some t.heard) (Some after) end seen seen_after → (piece : List ℕ) × (after ≡ t.heard ++ piece)
  heard_more end input left after seen_after (broke piece consumes hears b) = (piece, hears)
  heard_more end input left after seen_after (unread_end none consumes kept unshut same) = ([], kept ∙ sym (append-nil t.heard))

whole_end : (end : SessionEnd) → ends_whole end ≡ true → IsWhole end
whole_end ends.Ended is = tt
whole_end ends.ReadFault is = tt
whole_end ends.Shut bad = absurd cc
whole_end ends.Memory bad = absurd cc
whole_end ends.Turns is = tt
whole_end ends.Stopped bad = absurd cc
whole_end ends.NoThread bad = absurd cc

-- a session that is over
pub over_of : (k : Settings) (taped : Bool) (n : ℕ) (limits : Limits) (heard : List ℕ) (end : SessionEnd) (since seen : List Entry) → Reads k taped n n limits (Some heard) (Some []) end since seen
    → IsOverSo k n limits since seen heard (ends_whole end)
over_of k taped n limits heard end since seen r = record {
  rest = r.rest;
  fault = r.fault;
  hands = subst (λ (l : List ℕ). HandsIn k n n limits l r.rest r.fault since seen) (sym (r.consumes ∙ append-nil r.read)) r.hands;
  whole = λ w. r.whole (whole_end end w);
}

fault_at_more : (limits : Limits) (rest more : List ℕ) (fault : Option UnitFault) → IfSome fault (λ fault. IsFaultAt limits rest fault) → IfSome fault (λ fault. IsFaultAt limits (rest ++ more) fault)
fault_at_more limits rest more None h = tt
fault_at_more limits rest more (Some fault) h = record { fed = h.fed; named = h.named; stands = fault_stays limits rest more h.fed h.stands }

-- what comes after it changes nothing
pub over_more : (k : Settings) (n : ℕ) (limits : Limits) (since seen : List Entry) (heard more : List ℕ) (is_whole : Bool) → IsOverSo k n limits since seen heard is_whole → IsOverSo k n limits since seen (heard ++ more) false
over_more k n limits since seen heard more is_whole o = record {
  rest = o.rest ++ more;
  fault = o.fault;
  hands = record {
    items = o.hands.items;
    begins = begins_stay limits heard o.rest more o.hands.items o.hands.begins;
    stands = fault_at_more limits o.rest more o.fault o.hands.stands;
    adds = o.hands.adds;
  };
  whole = λ bad. absurd cc;
}

-- nothing was handed in behind it
hands_none : (k : Settings) (n : ℕ) (limits : Limits) (heard rest : List ℕ) (fault : Option UnitFault) (since seen after : List Entry) → Adds n [] seen after → HandsIn k n n limits heard rest fault since seen
    → HandsIn k n n limits heard rest fault since after
hands_none k n limits heard rest fault since seen after none h = record {
  items = h.items;
  begins = h.begins;
  stands = h.stands;
  adds = adds_same n (steps_of k n h.items fault ++ []) (steps_of k n h.items fault) since after (append-nil (steps_of k n h.items fault)) (adds_then n (steps_of k n h.items fault) [] since seen after h.adds none);
}

-- ---- connections that are gone

pub heard_closed : (k : Settings) (n : ℕ) (limits : Limits) (since seen after : List Entry) (socket : Option ℤ) (heard : List ℕ) (is_whole : Bool) → IsReadThrough socket heard → IsOverSo k n limits since seen heard is_whole
    → Adds n (Close n ∷ []) seen after → IsHeard k n limits (record { since = since; until = after; socket = socket; read = heard; is_whole = is_whole })
heard_closed k n limits since seen after socket heard is_whole own o adds = record {
  own = own;
  items = o.hands.items;
  rest = o.rest;
  fault = o.fault;
  begins = o.hands.begins;
  stands = o.hands.stands;
  adds = adds_then n (steps_of k n o.hands.items o.fault) (Close n ∷ []) since seen after o.hands.adds adds;
  whole = o.whole;
}

-- nothing was read of it
over_unread : (k : Settings) (n : ℕ) (limits : Limits) (since seen : List Entry) → Adds n [] since seen → IsOverSo k n limits since seen [] true
over_unread k n limits since seen none = record { rest = []; fault = None; hands = record { items = []; begins = refl; stands = tt; adds = none }; whole = λ w. (refl, waits_none limits) }

-- ---- a talk goes on

module _ (k : Settings) (t : TalkState) (is : IsTalk k t) where
  abbrev TalksOn : List Entry → Option TalkingState → Type 0
  TalksOn seen talking = IsTalking k t.number t.limits t.hearings.since seen talking

  -- its sockets stay those that they were
  same_sockets : (side : Option SideState) (talking now : Option TalkingState) → ((passed : List (ℤ × Bool)) → GoesThrough talking t.hearings.past passed → GoesThrough now t.hearings.past passed)
      → t.talking ≡ talking → IsKnown side t.talking t.hearings.past → IsKnown side now t.hearings.past
  same_sockets None talking now same there s = tt
  same_sockets (Some side) talking now same there s = same side.passed (subst (λ (o : Option TalkingState). GoesThrough o t.hearings.past side.passed) there s)

  -- the account of the connections that are gone stays
  talk_now : (m : ℕ) (seen : List Entry) (talking now : Option TalkingState) → m ≡ t.number → t.talking ≡ talking → ((passed : List (ℤ × Bool)) → GoesThrough talking t.hearings.past passed → GoesThrough now t.hearings.past passed)
      → TalksOn seen now → IsTalk k (record t { number = m; seen = seen; talking = now })
  talk_now m seen talking now same there sockets talks =
      subst (λ (i : ℕ). IsTalk k (record t { number = i; seen = seen; talking = now })) (sym same)
      (record { count = is.count; past = is.past; now = talks; side = same_sockets t.side talking now sockets there is.side })

  -- the connection goes on through its socket
  talk_of : (m : ℕ) (seen : List Entry) (u now : TalkingState) → m ≡ t.number → t.talking ≡ Some u → now.socket ≡ u.socket → TalksOn seen (Some now)
      → IsTalk k (record t { number = m; seen = seen; talking = Some now })
  talk_of m seen u now same there socket talks =
      talk_now m seen (Some u) (Some now) same there (λ passed g. (g.0, subst (λ (s : ℤ). passed ≡ (s, true) ∷ g.0) (sym socket) g.1, g.2)) talks

  was : (u : TalkingState) → t.talking ≡ Some u → IsTalkingBy k u.reading t.number t.limits t.hearings.since t.seen u
  was u there = subst (λ (o : Option TalkingState). TalksOn t.seen o) there is.now

  -- ---- a connection comes

  pub talk_lent : IsTalk k (record t { side = None })
  talk_lent = record { count = is.count; past = is.past; now = is.now; side = tt }

  pub talk_begun : (side : SideState) (now : TalkingState) → IsHanded t side now.socket true → now ≡ unread now.socket t.limits now.answers now.last
      → IsTalk k (record t { side = Some side; talking = Some now })
  talk_begun side now h fresh = record {
    count = is.count;
    past = is.past;
    now =
        subst (λ (r : HowFar). IsTalkingBy k r t.number t.limits t.hearings.since t.seen now) (sym (ap (λ (u : TalkingState). u.reading) fresh))
        (goes_on_unread k t.number t.limits t.hearings.since t.seen now fresh (subst (λ (o : Option TalkingState). TalksOn t.seen o) h.nobody is.now));
    side = (h.older, h.passed, h.through);
  }

  -- ---- its session ends

  ended_so : (reading : HowFar) (u : TalkingState) → is_over_by reading ≡ true → IsTalkingBy k reading t.number t.limits t.hearings.since t.seen u
      → IsTalkingBy k (ended_by reading) t.number t.limits t.hearings.since t.seen (record u { reading = ended_by reading })
  ended_so Goes u bad h = absurd cc
  ended_so (Drops end) u over h = subst (λ (b : Bool). IsOverSo k t.number t.limits t.hearings.since t.seen u.heard b) (sym h.0) h.1
  ended_so (Ended end) u over h = h

  -- nothing is read any more
  pub talk_ended : (u : TalkingState) → t.talking ≡ Some u → is_over_by u.reading ≡ true → IsTalk k (record t { talking = Some (record u { reading = ended_by u.reading }) })
  talk_ended u there over = talk_of t.number t.seen u (record u { reading = ended_by u.reading }) refl there refl (ended_so u.reading u over (was u there))

  -- it is cut
  cut_so : (end : SessionEnd) (reading : HowFar) (u : TalkingState) → ends_whole end ≡ false → IsTalkingBy k reading t.number t.limits t.hearings.since t.seen u
      → IsTalkingBy k (cut_by end reading) t.number t.limits t.hearings.since t.seen (record u { reading = cut_by end reading })
  cut_so end Goes u unwhole h = (unwhole, over_at_rest k t.number t.limits t.hearings.since t.seen u h)
  cut_so end (Drops before) u unwhole h = h
  cut_so end (Ended before) u unwhole h = h

  pub talk_cut : (end : SessionEnd) (u : TalkingState) → t.talking ≡ Some u → ends_whole end ≡ false → IsTalk k (record t { talking = Some (record u { reading = cut_by end u.reading }) })
  talk_cut end u there unwhole = talk_of t.number t.seen u (record u { reading = cut_by end u.reading }) refl there refl (cut_so end u.reading u unwhole (was u there))

  -- what the last read left is taken
  same_so : (reading : HowFar) (u : TalkingState) → IsTalkingBy k reading t.number t.limits t.hearings.since t.seen u → IsTalkingBy k reading t.number t.limits t.hearings.since t.seen (record u { last = None })
  same_so Goes u h = record { limited = h.limited; hands = h.hands; waits = h.waits }
  same_so (Drops end) u h = h
  same_so (Ended end) u h = h

  pub talk_taken : (u : TalkingState) → t.talking ≡ Some u → IsTalk k (record t { talking = Some (record u { last = None }) })
  talk_taken u there = talk_of t.number t.seen u (record u { last = None }) refl there refl (same_so u.reading u (was u there))

  -- more was read after its session was over
  dropped_so : (reading : HowFar) (u now : TalkingState) (piece : List ℕ) → is_dropping_by reading ≡ true → now.heard ≡ u.heard ++ piece → IsTalkingBy k reading t.number t.limits t.hearings.since t.seen u
      → IsTalkingBy k reading t.number t.limits t.hearings.since t.seen now
  dropped_so Goes u now piece bad more h = absurd cc
  dropped_so (Drops end) u now piece drops more h =
      (h.0, subst (λ (l : List ℕ). IsOverSo k t.number t.limits t.hearings.since t.seen l false) (sym more) (over_more k t.number t.limits t.hearings.since t.seen u.heard piece false h.1))
  dropped_so (Ended end) u now piece bad more h = absurd cc

  pub talk_discarded : (u now : TalkingState) (piece : List ℕ) → t.talking ≡ Some u → is_dropping_by u.reading ≡ true → now.reading ≡ u.reading → now.heard ≡ u.heard ++ piece → now.socket ≡ u.socket
      → IsTalk k (record t { talking = Some now })
  talk_discarded u now piece there drops reading more socket =
      talk_of t.number t.seen u now refl there socket
      (subst (λ (r : HowFar). IsTalkingBy k r t.number t.limits t.hearings.since t.seen now) (sym reading) (dropped_so u.reading u now piece drops more (was u there)))

  -- ---- a turn

  going : (u : TalkingState) → t.talking ≡ Some u → u.reading ≡ Goes → GoesOnSo k t.number t.limits t.hearings.since t.seen u
  going u there goes = subst (λ (r : HowFar). IsTalkingBy k r t.number t.limits t.hearings.since t.seen u) goes (was u there)

  over_so : (taped : Bool) (end : SessionEnd) (seen : List Entry) (now : TalkingState) (whole : Bool) → ends_whole end ≡ whole → Reads k taped t.number t.number t.limits (Some now.heard) (Some []) end t.hearings.since seen
      → IsTalkingBy k (if whole then Ended end else Drops end) t.number t.limits t.hearings.since seen now
  over_so taped end seen now true is r = over_of k taped t.number t.limits now.heard end t.hearings.since seen r
  over_so taped end seen now false is r = (is, subst (λ (b : Bool). IsOverSo k t.number t.limits t.hearings.since seen now.heard b) is (over_of k taped t.number t.limits now.heard end t.hearings.since seen r))

  stepped_now : (taped : Bool) (u now : TalkingState) → GoesOnSo k t.number t.limits t.hearings.since t.seen u → (result : Result (Unit {0}) SessionEnd) (input left : Option (List ℕ)) (seen : List Entry)
      → Steps k taped t.number t.number u.stream u.has_units input left (Some u.heard) (Some now.heard) result now.has_units t.seen seen now.stream
      → IsTalkingBy k (reading_after result) t.number t.limits t.hearings.since seen now
  stepped_now taped u now h (Ok done) input left seen s = goes_on_more k taped t.number t.limits t.hearings.since t.seen u h now input left seen s
  stepped_now taped u now h (Err end) input left seen s =
      over_so taped end seen now (ends_whole end) refl (reads_all k taped t.number t.limits t.hearings.since t.seen u h end input left now.heard seen s)

  pub talk_stepped : (taped : Bool) (m : ℕ) (u now : TalkingState) → m ≡ t.number → t.talking ≡ Some u → u.reading ≡ Goes → (result : Result (Unit {0}) SessionEnd) (input left : Option (List ℕ)) (seen : List Entry)
      → Steps k taped t.number t.number u.stream u.has_units input left (Some u.heard) (Some now.heard) result now.has_units t.seen seen now.stream
      → now.reading ≡ reading_after result → now.socket ≡ u.socket → IsTalk k (record t { number = m; seen = seen; talking = Some now })
  talk_stepped taped m u now same there goes result input left seen s reading socket =
      talk_of m seen u now same there socket
      (subst (λ (r : HowFar). IsTalkingBy k r t.number t.limits t.hearings.since seen now) (sym reading) (stepped_now taped u now (going u there goes) result input left seen s))

  stepped_by : (taped : Bool) (m : ℕ) (u now : TalkingState) → m ≡ t.number → GoesOnSo k t.number t.limits t.hearings.since t.seen u → (result : Result (Unit {0}) SessionEnd) (input left : Option (List ℕ)) (seen : List Entry)
      → Steps k taped t.number t.number u.stream u.has_units input left (Some u.heard) (Some now.heard) result now.has_units t.seen seen now.stream
      → now.reading ≡ reading_after result → now.socket ≡ u.socket → AsksInStep u.has_units (Some u.answers) (Some now.answers) result
      → Stepped k taped result t (record t { number = m; seen = seen; talking = Some now }) u
  stepped_by taped m u now same h (Ok done) input left seen s reading socket asks = record {
    now = now;
    piece = s.piece;
    new_is = λ i. record t { number = same i; seen = seen; talking = Some now };
    heard = s.hears;
    socket = socket;
    reading = reading;
    asks = asks;
    turns = tt;
  }
  stepped_by taped m u now same h (Err end) input left seen s reading socket asks =
      let more = heard_more k taped t.number t.limits t.hearings.since t.seen u h end input left now.heard seen s in
      record {
        now = now;
        piece = more.0;
        new_is = λ i. record t { number = same i; seen = seen; talking = Some now };
        heard = more.1;
        socket = socket;
        reading = reading;
        asks = asks;
        turns = reads_all k taped t.number t.limits t.hearings.since t.seen u h end input left now.heard seen s;
      }

  pub steps_on : (taped : Bool) (m : ℕ) (u now : TalkingState) → m ≡ t.number → t.talking ≡ Some u → u.reading ≡ Goes → (result : Result (Unit {0}) SessionEnd) (input left : Option (List ℕ)) (seen : List Entry)
      → Steps k taped t.number t.number u.stream u.has_units input left (Some u.heard) (Some now.heard) result now.has_units t.seen seen now.stream
      → now.reading ≡ reading_after result → now.socket ≡ u.socket → AsksInStep u.has_units (Some u.answers) (Some now.answers) result
      → StepsOn t.talking k taped result t (record t { number = m; seen = seen; talking = Some now })
  steps_on taped m u now same there goes result input left seen s reading socket asks =
      let new : TalkState = record t { number = m; seen = seen; talking = Some now } in
      subst (λ (o : Option TalkingState). StepsOn o k taped result t new) (sym there)
      (subst (λ (r : HowFar). SteppedIf r k taped result t new u) (sym goes)
      (stepped_by taped m u now same (going u there goes) result input left seen s reading socket asks))

  -- ---- a closing

  over_refused : (heard : List ℕ) (is_whole : Bool) (seen : List Entry) → Adds t.number [] t.seen seen → IsOverSo k t.number t.limits t.hearings.since t.seen heard is_whole
      → IsOverSo k t.number t.limits t.hearings.since seen heard is_whole
  over_refused heard is_whole seen none h = record { rest = h.rest; fault = h.fault; hands = hands_none k t.number t.limits heard h.rest h.fault t.hearings.since t.seen seen none h.hands; whole = h.whole }

  refused_by : (reading : HowFar) (u : TalkingState) (seen : List Entry) → Adds t.number [] t.seen seen → IsTalkingBy k reading t.number t.limits t.hearings.since t.seen u
      → IsTalkingBy k reading t.number t.limits t.hearings.since seen u
  refused_by Goes u seen none h = record { limited = h.limited; hands = hands_none k t.number t.limits u.heard u.stream.pending None t.hearings.since t.seen seen none h.hands; waits = h.waits }
  refused_by (Drops end) u seen none h = (h.0, over_refused u.heard false seen none h.1)
  refused_by (Ended end) u seen none h = over_refused u.heard (ends_whole end) seen none h

  refused_now : (talking : Option TalkingState) (seen : List Entry) → Adds t.number [] t.seen seen → TalksOn t.seen talking → TalksOn seen talking
  refused_now None seen none h = adds_then t.number [] [] t.hearings.since t.seen seen h none
  refused_now (Some u) seen none h = refused_by u.reading u seen none h

  pub talk_refused : (m : ℕ) (seen : List Entry) → m ≡ t.number → Adds t.number [] t.seen seen → IsTalk k (record t { number = m; seen = seen })
  talk_refused m seen same none = talk_now m seen t.talking t.talking same refl (λ passed g. g) (refused_now t.talking seen none is.now)

  -- what was read of the connection that goes, and its socket
  over_ended : (reading : HowFar) (u : TalkingState) → is_reading_on reading ≡ false → IsTalkingBy k reading t.number t.limits t.hearings.since t.seen u
      → IsOverSo k t.number t.limits t.hearings.since t.seen u.heard (whole_by reading)
  over_ended Goes u bad h = absurd cc
  over_ended (Drops end) u bad h = absurd cc
  over_ended (Ended end) u ended h = h

  count_more : (closings : ℕ) → closings ≡ counted (t.closings + 1) → closings < most_openings → closings ≡ length t.hearings.past + 1
  count_more closings one_more below = let same = is.count (omega (arith, one_more, below)) in omega (arith, one_more, below, same)

  closed_with : (m closings : ℕ) (seen : List Entry) (hearings : Hearings) (side : Option SideState) (heard : Heard) → m ≡ t.number → closings ≡ counted (t.closings + 1)
      → hearings ≡ record { past = heard ∷ t.hearings.past; since = seen } → heard.since ≡ t.hearings.since → heard.until ≡ seen → IsHeard k t.number t.limits heard
      → IsKnown side None (heard ∷ t.hearings.past)
      → IsTalk k (record { number = m; limits = t.limits; closings = closings; seen = seen; hearings = hearings; side = side; talking = None })
  closed_with m closings seen hearings side heard same one_more entered since until one sides =
      subst (λ (z : ℕ × Hearings). IsTalk k (record { number = z.0; limits = t.limits; closings = closings; seen = seen; hearings = z.1; side = side; talking = None })) (λ i. (sym same i, sym entered i))
      (record {
        count = λ below. let more = count_more closings one_more below in omega (arith, more);
        past = (sym until, one, subst (λ (l : List Entry). AreHeard k t.number t.limits t.hearings.past l) (sym since) is.past);
        now = adds_none t.number seen;
        side = sides;
      })

  not_reading : (b : Bool) → not b ≡ true → b ≡ false
  not_reading false is = refl
  not_reading true bad = absurd cc

  module _ (m closings : ℕ) (seen : List Entry) (hearings : Hearings) (same : m ≡ t.number) (one_more : closings ≡ counted (t.closings + 1)) (adds : Adds t.number (Close t.number ∷ []) t.seen seen) where
    went : (u : TalkingState) → t.talking ≡ Some u → (heard : Heard) → heard.socket ≡ Some u.socket → (side : Option SideState) → IsKnown side t.talking t.hearings.past → IsKnown side None (heard ∷ t.hearings.past)
    went u there heard through None h = tt
    went u there heard through (Some side) h =
        let g = subst (λ (o : Option TalkingState). GoesThrough o t.hearings.past side.passed) there h in
        subst (λ (l : List (ℤ × Bool)). WentThrough (heard ∷ t.hearings.past) l) (sym g.1) (subst (λ (o : Option ℤ). FitsSocket o (u.socket, true)) (sym through) refl, g.2)

    closed_by : (talking : Option TalkingState) → t.talking ≡ talking → has_ended talking ≡ true → hearings ≡ hearings_with seen talking t.hearings
        → IsTalk k (record { number = m; limits = t.limits; closings = closings; seen = seen; hearings = hearings; side = t.side; talking = None })
    closed_by None there bad entered = absurd cc
    closed_by (Some u) there ended entered =
        let o = over_ended u.reading u (not_reading (is_reading_on u.reading) ended) (was u there) in
        closed_with m closings seen hearings t.side (record { since = t.hearings.since; until = seen; socket = Some u.socket; read = u.heard; is_whole = whole_by u.reading }) same one_more entered refl refl
        (heard_closed k t.number t.limits t.hearings.since t.seen seen (Some u.socket) u.heard (whole_by u.reading) tt o adds) (went u there _ refl t.side is.side)

    pub talk_closed : has_ended t.talking ≡ true → hearings ≡ hearings_with seen t.talking t.hearings
        → IsTalk k (record { number = m; limits = t.limits; closings = closings; seen = seen; hearings = hearings; side = t.side; talking = None })
    talk_closed ended entered = closed_by t.talking refl ended entered

    -- nobody served it
    pub talk_unserved : (side : SideState) (socket : ℤ) → IsHanded t side socket false → hearings ≡ hearings_with seen t.talking t.hearings
        → IsTalk k (record { number = m; limits = t.limits; closings = closings; seen = seen; hearings = hearings; side = Some side; talking = t.talking })
    talk_unserved side socket h entered =
        let heard : Heard = record { since = t.hearings.since; until = seen; socket = None; read = []; is_whole = true } in
        let none = subst (λ (o : Option TalkingState). TalksOn t.seen o) h.nobody is.now in
        subst (λ (o : Option TalkingState). IsTalk k (record { number = m; limits = t.limits; closings = closings; seen = seen; hearings = hearings; side = Some side; talking = o })) (sym h.nobody)
        (closed_with m closings seen hearings (Some side) heard same one_more (entered ∙ ap (λ (o : Option TalkingState). hearings_with seen o t.hearings) h.nobody) refl refl
        (heard_closed k t.number t.limits t.hearings.since t.seen seen None [] true refl (over_unread k t.number t.limits t.hearings.since t.seen none) adds)
        (subst (λ (l : List (ℤ × Bool)). WentThrough (heard ∷ t.hearings.past) l) (sym h.passed) (refl, h.through)))

-- what a closing handed in
pub closing_adds : (n m : ℕ) (result : Result Receipt ApplyError) (seen after : List Entry) → m ≡ n → is_ok result ≡ true → HandedIn n (if_taken (Close m) result) seen after → Adds n (Close n ∷ []) seen after
closing_adds n m (Ok receipt) seen after same ok h = subst (λ (i : ℕ). HandedIn n (Close i ∷ []) seen after) same h
closing_adds n m (Err refused) seen after same ok h = absurd cc

pub refusal_adds : (n m : ℕ) (result : Result Receipt ApplyError) (seen after : List Entry) → is_ok result ≡ false → HandedIn n (if_taken (Close m) result) seen after → Adds n [] seen after
refusal_adds n m (Ok receipt) seen after unless h = absurd cc
refusal_adds n m (Err refused) seen after unless h = h

-- ---- what calls say

-- what was read by one call
pub piece_of : {E : Type 0} (old new : List ℕ) (result : Result ℕ E) (room : List ℕ) → WriteAppends (Some old) (Some new) result room → (piece : List ℕ) × (new ≡ old ++ piece)
piece_of old new (Ok count) room h = (take count room, h)
piece_of old new (Err error) room h = ([], h ∙ sym (append-nil old))

pub discards_on : (t : TalkState) (u now : TalkingState) (answer : Answer) (piece : List ℕ) → t.talking ≡ Some u → now ≡ record u { heard = u.heard ++ piece; answers = answer ∷ u.answers; last = now.last }
    → Discards t.talking answer t (record t { talking = Some now })
discards_on t u now answer piece there is =
    subst (λ (o : Option TalkingState). Discards o answer t (record t { talking = Some now })) (sym there)
    (record { piece = piece; last = now.last; new_is = λ i. record t { talking = Some (is i) } })

pub discards_from : (t old new : TalkState) (answer : Answer) → t ≡ old → Discards t.talking answer t new → Discards old.talking answer old new
discards_from t old new answer same d = subst (λ (o : TalkState). Discards o.talking answer o new) same d

pub steps_from : (k : Settings) (taped : Bool) (result : Result (Unit {0}) SessionEnd) (t old new : TalkState) → t ≡ old → StepsOn t.talking k taped result t new → StepsOn old.talking k taped result old new
steps_from k taped result t old new same s = subst (λ (o : TalkState). StepsOn o.talking k taped result o new) same s

over_as : (end : SessionEnd) (whole : Bool) (now : TalkingState) → now.reading ≡ (if whole then Ended end else Drops end) → IsOverAs whole (Some now)
over_as end true now is = ap (λ (r : HowFar). not (is_reading_on r)) is
over_as end false now is = ap is_dropping_by is

-- where a turn has an error, the session is over
pub over_where_err : (result : Result (Unit {0}) SessionEnd) (now : TalkingState) → now.reading ≡ reading_after result → IfErr result (λ end. IsOverAs (ends_whole end) (Some now))
over_where_err (Ok done) now is = tt
over_where_err (Err end) now is = over_as end (ends_whole end) now is

-- the side that was lent was handed a socket more
pub handed : (old new : TalkState) (side after : SideState) (socket : ℤ) (is_served : Bool) → IsLent old new side → after ≡ passed_with (Some (socket, is_served)) side → IsHanded new after socket is_served
handed old new side after socket is_served lent passed = record {
  nobody = ap (λ (t : TalkState). t.talking) lent.new_is ∙ lent.nobody;
  lent = ap (λ (t : TalkState). t.side) lent.new_is;
  older = side.passed;
  passed = ap (λ (s : SideState). s.passed) passed;
  through = subst (λ (t : TalkState). WentThrough t.hearings.past side.passed) (sym lent.new_is) lent.through;
}
