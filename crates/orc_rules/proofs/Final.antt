-- A term that has halted can only lose a cell.
use Rattle.std.proofs.Common.{◌≡◌, ℕ, List, refl, ap}
use Rattle.orc_rules.specs.declared.param.Param.{Param}
use Rattle.orc_rules.specs.declared.param.Param.TheVariants.{Void}
use Rattle.orc_rules.specs.Term.{Term, stop, param, site, call, par, seq, prune, other, pending, opened, Definition, fill, Halted}
use Rattle.orc_rules.specs.Step.{Act, loses, within, Used, Step, value_rule, void_value, site_call, void_call, return_rule, def_rule, par_left, par_right, seq_other, seq_value, prune_open, prune_left, prune_right, prune_bind, prune_lost, other_step, other_value, other_halt}
use Rattle.orc_rules.specs.Final.{HaltedIsFinal}

fill_halted : (w : Param) (c : ℕ) (t : Term) → Halted t → Halted (fill w c t)
fill_halted w c stop h = tt
fill_halted w c (par f g) h = (fill_halted w c f h.0, fill_halted w c g h.1)
fill_halted w c (seq f x g) h = fill_halted w c f h
fill_halted w c (opened f d g) h = (fill_halted w c f h.0, fill_halted w c g h.1)
fill_halted w c (param p) h = elim h [ ]
fill_halted w c (site m ps) h = elim h [ ]
fill_halted w c (call e ps) h = elim h [ ]
fill_halted w c (prune f x g) h = elim h [ ]
fill_halted w c (other f g) h = elim h [ ]
fill_halted w c (pending k) h = elim h [ ]

-- the act loses a cell
record IsLost (a : Act) : Type 0 where
  cell : ℕ
  is : a ≡ loses cell

module _ (defs : List Definition) (used : Used) where
  final_act : {t u : Term} {a : Act} → Step defs used t a u → Halted t → IsLost a
  final_act value_rule h = elim h [ ]
  final_act void_value h = elim h [ ]
  final_act (site_call is new) h = elim h [ ]
  final_act (void_call is) h = elim h [ ]
  final_act return_rule h = elim h [ ]
  final_act (def_rule is) h = elim h [ ]
  final_act (par_left d) h = final_act d h.0
  final_act (par_right d) h = final_act d h.1
  final_act (seq_other i d) h = final_act d h
  final_act (seq_value d) h = let l = final_act d h in cc l.is
  final_act (prune_open new) h = elim h [ ]
  final_act (prune_left d) h = final_act d h.0
  final_act (prune_right {c = c} i d) h = let l = final_act d h.1 in record { cell = l.cell; is = ap (within c) l.is }
  final_act (prune_bind d) h = let l = final_act d h.1 in cc l.is
  final_act (prune_lost {c = c} is) h = record { cell = c; is = refl }
  final_act (other_step i d) h = elim h [ ]
  final_act (other_value d) h = elim h [ ]
  final_act (other_halt is) h = elim h [ ]

  final_term : {t u : Term} {a : Act} → Step defs used t a u → Halted t → Halted u
  final_term value_rule h = elim h [ ]
  final_term void_value h = elim h [ ]
  final_term (site_call is new) h = elim h [ ]
  final_term (void_call is) h = elim h [ ]
  final_term return_rule h = elim h [ ]
  final_term (def_rule is) h = elim h [ ]
  final_term (par_left d) h = (final_term d h.0, h.1)
  final_term (par_right d) h = (h.0, final_term d h.1)
  final_term (seq_other i d) h = final_term d h
  final_term (seq_value d) h = let l = final_act d h in cc l.is
  final_term (prune_open new) h = elim h [ ]
  final_term (prune_left d) h = (final_term d h.0, h.1)
  final_term (prune_right i d) h = (h.0, final_term d h.1)
  final_term (prune_bind d) h = let l = final_act d h.1 in cc l.is
  final_term (prune_lost {f = f} {c = c} is) h = fill_halted Void c f h.0
  final_term (other_step i d) h = elim h [ ]
  final_term (other_value d) h = elim h [ ]
  final_term (other_halt is) h = elim h [ ]

pub halted_is_final : HaltedIsFinal
halted_is_final defs used t a u h d = let l = final_act defs used d h in ((l.cell, l.is), final_term defs used d h)
