mod ActivityPlans
mod RequestPlans
mod Slashes
mod WorkPosts
