-- Orders played one after the other: one more at the end, and the history and the laws of all of them.
use Rattle.std.proofs.Common.{◌≡◌, ℕ, ◌+◌, ◌<◌, ◌≤◌, List, [], ◌∷◌, ◌++◌, length, get_or, take, Some, None, Option, refl}
use Rattle.std.proofs.lemmas.List.{take_more, take_all}
use Rattle.graph.specs.Meaning.{Opened}
use Rattle.keeper.specs.declared.orders.Order.{Order}
use Rattle.keeper.specs.declared.orders.Reply.{Reply}
use Rattle.keeper.specs.Keeping.{State, Ask, Said}
use Rattle.keeper.specs.History.{Moment, History, then, New, Grounds, Lawful}
use Rattle.keeper.specs.History as H
use Rattle.keeper.specs.Play.{asked, said_by, held_after, Taken, Played, none, made, passed, Ran}
use Rattle.keeper.proofs.Shown.{law}

history : {s t : State} {held left : List ℕ} {os : List Order} {ws : List Reply} {es : List Moment} → Played s held os ws es t left → History s es t
history none = H.none
history (made q a e p) = then e (history p)
history (passed q a p) = history p

-- One order more at the end.
one : (o : Order) (w : Reply) (s t : State) (held : List ℕ) (c : Option Ask) (x : Option Said) → asked o held ≡ c → said_by w t ≡ x → Taken c x s t → (fs : List Moment) × Played s held (o ∷ []) (w ∷ []) fs t (held_after held o w)
one o w s t held (Some c) (Some x) e f h = (record { before = s; ask = c; said = x; after = t } ∷ [], made e f h none)
one o w s t held (Some c) None e f h = absurd h
one o w s t held None (Some x) e f h = absurd h
one o w s t held None None e f h =
    ([], rw h (passed e (rw h at f) none))

more : {s u : State} {held mid : List ℕ} {os : List Order} {ws : List Reply} {es : List Moment} → Played s held os ws es u mid → (o : Order) (w : Reply) (t : State) → Taken (asked o mid) (said_by w t) u t → (fs : List Moment) × Played s held (os ++ (o ∷ [])) (ws ++ (w ∷ [])) fs t (held_after mid o w)
more (none {s = s} {held = held}) o w t h = one o w s t held (asked o held) (said_by w t) refl refl h
more (made q a e p) o w t h = let r = more p o w t h in (_, made q a e r.1)
more (passed q a p) o w t h = let r = more p o w t h in (r.0, passed q a r.1)

pub next_order : (s u t : State) (held mid left : List ℕ) (os : List Order) (ws ws' : List Reply) (i : ℕ) (d : Order) (w : Reply) → i < length os → ws' ≡ ws ++ (w ∷ []) → left ≡ held_after mid (get_or os i d) w → (es : List Moment) × Played s held (take i os) ws es u mid → Taken (asked (get_or os i d) mid) (said_by w t) u t → (fs : List Moment) × Played s held (take (i + 1) os) ws' fs t left
next_order s u t held mid left os ws ws' i d w l e f p h =
    let m = more p.1 (get_or os i d) w t h in (m.0, rw (f, e, take_more os i d l) m.1)

pub all_orders : (s t : State) (held left : List ℕ) (os : List Order) (ws : List Reply) (i : ℕ) → Grounds s → ((first : ℕ) → Opened first s.heap → New s) → length os ≤ i → (es : List Moment) × Played s held (take i os) ws es t left → Ran s held os ws t left
all_orders s t held left os ws i g n l p =
    let q = rw (take_all i os l) at p.1 in
    record { moments = p.0; played = q; history = history q; lawful = λ first o. law s t p.0 g (n first o) (history q) }
