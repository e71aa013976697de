mod Employments
mod LeafPlans
