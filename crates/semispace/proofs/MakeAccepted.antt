-- A make: its graph, its spare, due and kept after it are the call's.
use Rattle.std.proofs.Common.{rules, ◌≡◌, ℕ, ◌+◌, ◌<◌, ◌≤◌, true, ◌⊎◌, map, length, get_or, set, replicate, sym, refl, ap, ◌∙◌, subst, inl, inr, arith}
use Rattle.std.proofs.lemmas.List.{get_or-map, ext_get_or, get_or-replicate, length-replicate}
use Rattle.std.proofs.lemmas.List.FromFn.{length-map-range_with_len, get_or-map-range_with_len}
use Rattle.std.specs.List.{range_with_len}
use Rattle.kinds.specs.Shapes.{Shape, no_shape}
use Rattle.graph.specs.Graph.{Record, Graph, ◌∈◌, size}
use Rattle.graph.specs.Calls as GC
use Rattle.graph.specs.Sound.{Same}
use Rattle.graph.specs.Meaning.{headed_charges}
use Rattle.graph.proofs.Changes.{in_map, map_in}
use Rattle.graph.proofs.Views.{same_after}
use Rattle.semispace.specs.Layout.{mem}
use Rattle.semispace.specs.Words.{State, kind_at, made_at, fields_of, fields_at}
use Rattle.semispace.specs.Sound.{the_news, good, Sound, number, name, shown}
use Rattle.semispace.specs.Dues.{objects, lives, due}
use Rattle.semispace.specs.Graphs.{record_of, raw_of, graph_of, Known, Whole}
use Rattle.semispace.specs.Collected.{meaning_of, Accepted}
use Rattle.semispace.specs.Callings.{grown_by, made_in}
use Rattle.semispace.proofs.Graphing.{mem_in, in_mem, record_eq}
use Rattle.semispace.proofs.SlotSound.{good_from}
use Rattle.semispace.proofs.Likes.{name_of}
use Rattle.semispace.proofs.Whole.{raw_sound}
use Rattle.semispace.proofs.Less.{root_new, lives_root}
use Rattle.semispace.proofs.Collecting.{due_rest, due_going}
use Rattle.semispace.proofs.Forth.{set_sound, set_known, set_raw, set_less, set_due}
use Rattle.semispace.proofs.Seeing.{slots_length}
use Rattle.semispace.proofs.Making.{made_tag, size_here}
use Rattle.semispace.proofs.MakeSound.{made_there, objects_m}
use Rattle.semispace.proofs.MakeGraph.{record2}
use Rattle.semispace.proofs.MakeCounts.{T, KT, at_object, old_object, number_new, names_same, shown_new, kept_made, due_made}

module _ (s : State) (S : Sound s) (K : Known s) (a k : ℕ) (known : k < 16) (kk : k < length s.book) (fits : 2 + fields_of s.book k ≤ s.spare) (la : a < s.count) where
  abbrev at : ℕ
  at = made_at s k

  abbrev t : State
  t = grown_by s k

  abbrev u : State
  u = made_in s a k

  some_next : 0 < s.next
  some_next = K.first (omega arith)

  abbrev TS : Sound t
  TS = T s S K k known kk fits some_next

  abbrev TK : Known t
  TK = KT s S K k known kk fits some_next

  leads : good (the_news t) (at + 1) ≡ true
  leads = good_from (the_news t) at (at + 1) refl (made_there s S k known fits)

  U : Sound u
  U = set_sound t TS TK a (at + 1) leads la

  UK : Known u
  UK = set_known t TS TK a (at + 1) leads la

  pub make_whole : Whole u
  make_whole = record { sound = U; known = UK }

  -- the new record
  kind_new : kind_at t at ≡ k
  kind_new = let g = made_tag s S k s.next known fits in omega arith

  fields_new : fields_at t at ≡ size s.book k
  fields_new = ap (λ n. size s.book n) kind_new

  new_record : record_of t at ≡ GC.fresh s.book s.next k
  unfolding record_of
  new_record =
      record_eq _ _ (number_new s S K k known kk fits some_next) kind_new
      (ext_get_or 0 (map (shown t at) (range_with_len 0 (fields_at t at))) (replicate (size s.book k) 0)
      (length-map-range_with_len (shown t at) 0 (fields_at t at) ∙ (fields_new ∙ sym (length-replicate (size s.book k) 0)))
      (λ j l.
      let m : j < fields_at t at = subst (λ n. j < n) (length-map-range_with_len (shown t at) 0 (fields_at t at)) l in
      let z = size_here s S k s.next known fits in
      let e = fields_new in
      get_or-map-range_with_len (shown t at) 0 (fields_at t at) j j 0 m (omega arith)
      ∙ (shown_new s S K k known kk fits some_next j (omega arith) ∙ sym (get_or-replicate (size s.book k) j 0 0 (omega arith)))))

  -- the list of records
  raw_parts : raw_of t ≡ record { slots = (raw_of s).slots; next = s.next + 1; records = map (record_of t) (objects t) }
  unfolding raw_of
  raw_parts = λ i. record { slots = names_same s S K k known kk fits some_next i; next = s.next + 1; records = map (record_of t) (objects t) }

  raw_made : raw_of u ≡ record { slots = set (raw_of s).slots a s.next; next = s.next + 1; records = map (record_of t) (objects t) }
  raw_made =
      let n : name t (at + 1) ≡ s.next = name_of t (at + 1) at refl ∙ number_new s S K k known kk fits some_next in
      set_raw t TS TK a (at + 1) leads la
      ∙ (ap (λ (g : Graph). record { slots = set g.slots a (name t (at + 1)); next = g.next; records = g.records }) raw_parts
      ∙ ap (λ m. record { slots = set (raw_of s).slots a m; next = s.next + 1; records = map (record_of t) (objects t) }) n)

  records_of : (raw_of s).records ≡ map (record_of s) (objects s)
  unfolding raw_of
  records_of = refl

  next_of : (raw_of s).next ≡ s.next
  unfolding raw_of
  next_of = refl

  old_in : (r : Record) → r ∈ (raw_of s).records → r ∈ map (record_of t) (objects t)
  old_in r i =
      let q = in_map (record_of s) (objects s) r (subst (λ xs. r ∈ xs) records_of i) in
      let m = in_mem q.0 (objects s) q.1 in
      subst (λ x. x ∈ map (record_of t) (objects t)) (record2 s S K k known kk fits q.0 m ∙ sym q.2)
      (map_in (record_of t) (objects t) q.0 (mem_in q.0 (objects t) (old_object s S K k known kk fits some_next q.0 m)))

  new_in : GC.fresh s.book s.next k ∈ map (record_of t) (objects t)
  new_in = subst (λ x. x ∈ map (record_of t) (objects t)) new_record (map_in (record_of t) (objects t) at (mem_in at (objects t) (at_object s S K k known kk fits some_next)))

  back_in : (r : Record) → r ∈ map (record_of t) (objects t) → (r ≡ GC.fresh s.book s.next k) ⊎ (r ∈ (raw_of s).records)
  back_in r i =
      let q = in_map (record_of t) (objects t) r i in
      elim (objects_m s S k known fits q.0 (in_mem q.0 (objects t) q.1)) [
        | inl e ↦ inl (q.2 ∙ (ap (record_of t) e ∙ new_record))
        | inr m ↦ inr (subst (λ x. x ∈ (raw_of s).records) (sym (q.2 ∙ record2 s S K k known kk fits q.0 m)) (subst (λ xs. record_of s q.0 ∈ xs) (sym records_of) (map_in (record_of s) (objects s) q.0 (mem_in q.0 (objects s) m))))
      ]

  same : Same s.book (GC.changed s.book (raw_of s) (GC.make a k)) (raw_of u)
  same = search (rules, arith, next_of, raw_made, new_in, old_in, back_in)

  graph_made : graph_of u ≡ GC.after s.book (graph_of s) (GC.make a k)
  unfolding graph_of
  graph_made = grind (arith, same_after, raw_sound, U, UK, slots_length, same)

  -- the counts
  live_new : (x : ℕ) → mem x (objects t) ≡ true → name t (at + 1) ≡ number t x → lives t x ≡ true
  live_new x m e = lives_root t x (root_new t at x (made_there s S k known fits) (sym (name_of t (at + 1) at refl) ∙ e))

  charge_is : get_or (headed_charges s.book) k 0 ≡ 2 + fields_of s.book k
  charge_is = get_or-map (λ (q : Shape). 2 + q.fields) s.book k no_shape 0 kk

  still_going : 0 < due s → 0 < due u
  still_going z = grind (arith, due_rest, due_going)

  pub make_accepted : Whole u × Accepted (meaning_of s) (GC.make a k) (meaning_of u)
  make_accepted =
      let c = charge_is in
      let k1 = (set_less t TS TK a (at + 1) leads la live_new).kept in
      let k2 = kept_made s S K k known kk fits some_next in
      let d1 = set_due t TS TK a (at + 1) leads la live_new in
      let d2 = due_made s S K k known kk fits some_next in (
        record { sound = U; known = UK },
        record {
          graph = graph_made;
          book = refl;
          charges = refl;
          capacity = refl;
          fixed = refl;
          spare = omega arith;
          due = omega arith;
          still = still_going;
          kept = omega arith;
        },
      )
